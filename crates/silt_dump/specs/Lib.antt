pub mod Order
pub mod Pieces
pub mod Spots
pub mod Stream
