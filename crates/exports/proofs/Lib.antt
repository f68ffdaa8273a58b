pub mod NoFlag
