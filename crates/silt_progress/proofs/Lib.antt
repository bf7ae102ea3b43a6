pub mod Conversions
pub mod Rooms
pub mod Sizes
pub mod Merges
pub mod Backgrounds
pub mod Common
