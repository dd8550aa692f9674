pub mod BreakingPoints
pub mod DecideLaws
pub mod WrongBreaks
