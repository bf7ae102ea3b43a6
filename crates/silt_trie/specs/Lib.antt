pub mod Building
pub mod Code
pub mod Coded
pub mod Marks
