pub mod Passes
pub mod Finish
pub mod Agreeing
pub mod Bounds
