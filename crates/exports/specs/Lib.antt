pub mod Flat
pub mod FlatFits
pub mod FlatCutoffs
pub mod FlatFile
pub mod FlatAttempts
pub mod FlatTables
pub mod FlatSetups
pub mod FlatSearches
