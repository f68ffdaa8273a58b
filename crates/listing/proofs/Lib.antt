-- What the functions' proofs cite, on plain values; then the theorems.
pub mod Backs
pub mod Joins
pub mod Decimals
pub mod Lines
pub mod Refusals
pub mod Longest
pub mod Values
pub mod Tells
pub mod Theorems
