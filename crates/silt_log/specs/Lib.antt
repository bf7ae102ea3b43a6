pub mod Calls
pub mod Found
pub mod Parts
pub mod Rows
pub mod Scans
pub mod State
