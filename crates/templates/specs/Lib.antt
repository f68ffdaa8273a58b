pub mod Cut
pub mod Floats
pub mod Filling
