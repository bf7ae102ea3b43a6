pub mod Common
mod Batches
mod Callers
mod Clients
mod JobLogs
mod Ledgers
mod Lists
mod Marks
mod Pipelines
mod Sets
mod Tolds
