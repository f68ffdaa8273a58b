-- The tables keep their rules: what the crates above cite.
pub mod Powers
pub mod Logs
mod Grows
pub mod Neighbours
pub mod Pieces
