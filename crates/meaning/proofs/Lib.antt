-- Laws that the crates above cite.
pub mod Replies
pub mod Chains
pub mod Rows
pub mod Folds
pub mod Rules
pub mod Overs
pub mod Says
pub mod Unique
pub mod Loops
pub mod Flagged
