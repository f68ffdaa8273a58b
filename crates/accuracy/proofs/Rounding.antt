-- What one rounding of a product, a sum or a difference costs. Leaves first. Assumes nothing.
-- ---- of signed values, in any format and in binary64
pub mod AnyFormat
pub mod Binary64
-- ---- products by a power of two
pub mod PowersOfTwo
pub mod TimesPowerOfTwo
-- ---- a number before its rounding, and how far apart doubles lie
pub mod HalfPlace
pub mod Spacing
-- ---- doubles as numbers of units
pub mod InUnits
