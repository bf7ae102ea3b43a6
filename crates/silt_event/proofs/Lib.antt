pub mod Answering
pub mod Findings
pub mod Rows
