pub mod Common
pub mod Named
pub mod Rows
pub mod Frame
pub mod Sound
pub mod Verdict
pub mod Search
pub mod Headers
mod WorkedRows
pub mod HeaderExits
