pub mod Lines
pub mod Reads
