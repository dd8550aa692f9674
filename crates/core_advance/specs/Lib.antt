pub mod Side
pub mod Shares
pub mod Advance
