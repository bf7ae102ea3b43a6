pub mod Keys
pub mod Noting
pub mod Sorted
pub mod Passing
pub mod Firsts
pub mod Skipping
pub mod Opened
pub mod Common
