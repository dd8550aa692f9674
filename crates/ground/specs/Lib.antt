pub mod Limits
pub mod Kinds
pub mod Views
pub mod Entries
pub mod Answers
pub mod Rules
