-- Laws of this layer, for its functions and for the crates above.
pub mod Densities
pub mod SingleCopies
pub mod Tables
pub mod Recurrences
pub mod Corners
pub mod LogLaws
pub mod Weights
pub mod Ready
pub mod Growths
pub mod WindowEnds
