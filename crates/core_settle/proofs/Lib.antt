pub mod Outlying
pub mod Raising
pub mod Turning
