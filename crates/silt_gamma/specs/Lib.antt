pub mod Bits
pub mod Gamma
