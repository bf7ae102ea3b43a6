pub mod Costs
pub mod Images
pub mod Laws
pub mod Products
pub mod Regions
pub mod Wrote
