pub mod Block
pub mod Places
pub mod Balance
pub mod Hanging
