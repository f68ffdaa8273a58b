pub mod Lines
pub mod Values
pub mod Attempts
pub mod Fits
pub mod Leaning
pub mod Heads
pub mod Answers
pub mod Record
