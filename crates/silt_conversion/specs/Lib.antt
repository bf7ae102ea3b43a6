pub mod Conversion
pub mod Laws
