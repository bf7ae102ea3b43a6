pub mod Moments
pub mod Views
