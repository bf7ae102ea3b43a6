pub mod Findings
pub mod State
pub mod Region
pub mod OnlyRow
pub mod Rebuild
pub mod Index
pub mod Indexing
pub mod Laws
