pub mod BitLists
pub mod Cutting
pub mod Gamma
pub mod Words
pub mod Reading
pub mod Writing
