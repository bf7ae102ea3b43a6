pub mod Compressing
pub mod Ending
pub mod Filling
pub mod Taking
