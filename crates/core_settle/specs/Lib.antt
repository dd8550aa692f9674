pub mod Raise
pub mod Settle
