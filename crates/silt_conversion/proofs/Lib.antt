pub mod Answering
pub mod Charging
pub mod Elsewhere
pub mod Soundness
pub mod Writing
pub mod Common
