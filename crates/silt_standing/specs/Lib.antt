pub mod State
pub mod Standing
