pub mod Drafts
pub mod Matched
