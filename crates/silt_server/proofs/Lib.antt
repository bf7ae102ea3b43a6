mod Sends
mod Serving
mod Sets
pub mod Names
