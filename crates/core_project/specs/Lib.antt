pub mod Core
pub mod Project
