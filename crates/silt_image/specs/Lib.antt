pub mod Stores
pub mod Meaning
pub mod Laws
