-- What the functions' proofs cite, on plain values; then the theorems.
pub mod Words
pub mod Values
pub mod Quotients
pub mod Examples
pub mod Theorems
