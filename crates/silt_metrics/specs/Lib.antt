pub mod Pages
pub mod Requests
pub mod Responses
