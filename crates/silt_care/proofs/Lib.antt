pub mod Gathering
pub mod Looking
pub mod Parts
pub mod Passing
