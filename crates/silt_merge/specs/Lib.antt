pub mod Rows
pub mod Pieces
pub mod State
pub mod Choice
pub mod Merging
pub mod Comparing
pub mod Steps
pub mod Laws
