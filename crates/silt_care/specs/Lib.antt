pub mod Extents
pub mod Orders
pub mod Scrubs
