pub mod Limits
pub mod Serving
pub mod Texts
