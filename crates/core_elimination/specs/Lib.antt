pub mod Block
pub mod Eliminate
