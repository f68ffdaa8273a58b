pub mod Fractions
pub mod ExpTable
pub mod Powers
pub mod LnTable
pub mod Series
pub mod Logs
