pub mod Slots
pub mod Packed
pub mod Placing
pub mod Pairs
pub mod Lookup
pub mod Keys
pub mod Index
pub mod Laws
