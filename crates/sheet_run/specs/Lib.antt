pub mod Run
pub mod Steps
