-- What the functions' proofs cite, on plain values.
pub mod Answered
pub mod Backed
pub mod Flags
pub mod Joins
pub mod Leanings
pub mod Theorems
