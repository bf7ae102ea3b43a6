pub mod RowBytes
