pub mod Common
pub mod Answering
pub mod Counted
pub mod Cuts
pub mod Digits
pub mod Http
pub mod Statuses
pub mod Streams
