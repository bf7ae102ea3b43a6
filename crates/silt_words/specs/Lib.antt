pub mod Addresses
pub mod Backups
pub mod Commands
pub mod Forms
pub mod Jobs
