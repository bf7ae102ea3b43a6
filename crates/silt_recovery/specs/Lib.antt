pub mod Digests
pub mod Entries
pub mod Errors
pub mod Format
pub mod Hashes
pub mod Logs
pub mod Opening
pub mod Refusals
