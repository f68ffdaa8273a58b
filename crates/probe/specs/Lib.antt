pub mod Flat
pub mod FlatModels
