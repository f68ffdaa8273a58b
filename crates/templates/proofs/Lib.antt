pub mod Bits
pub mod Cuts
pub mod Eyes
pub mod Millionths
pub mod Numerals
pub mod Pieces
pub mod Theorems
