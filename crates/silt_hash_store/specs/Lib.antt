pub mod Findings
pub mod Slots
pub mod Lookup
pub mod State
pub mod Rebuild
pub mod Laws
