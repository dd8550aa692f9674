pub mod Tree
pub mod Search
pub mod Chain
pub mod Problem
pub mod State
