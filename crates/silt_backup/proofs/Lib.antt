pub mod Comparisons
pub mod Copies
pub mod Reading
pub mod Records
pub mod SameMaps
pub mod Common
