pub mod Commands
pub mod Events
pub mod Findings
pub mod Queries
pub mod Rows
