pub mod Breaking
pub mod Decide
