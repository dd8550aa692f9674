pub mod Loops
pub mod Ranges
pub mod Eliminated
pub mod TreeFlow
pub mod SearchedBlock
