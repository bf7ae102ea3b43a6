pub mod Apart
pub mod Endings
pub mod Gates
