pub mod Disk
pub mod Header
pub mod Layout
pub mod Numbers
pub mod Wrote
