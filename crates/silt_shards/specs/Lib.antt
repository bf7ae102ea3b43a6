pub mod Attempts
pub mod Marks
pub mod Opening
pub mod Routing
pub mod SetLaws
pub mod SetFacts
pub mod Sets
pub mod Stores
