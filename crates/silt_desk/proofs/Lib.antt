pub mod CallLogs
mod Looking
pub mod Serving
mod Servings
pub mod Shares
mod Spending
pub mod Common
