mod Files
mod Filled
mod Freeing
mod Gathering
mod Marked
mod ToCome
mod Waiting
pub mod Common
