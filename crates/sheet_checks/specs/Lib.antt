pub mod Lent
pub mod Refusals
pub mod Checks
