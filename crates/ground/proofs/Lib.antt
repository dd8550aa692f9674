pub mod Copying
pub mod Each
