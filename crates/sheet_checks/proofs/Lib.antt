pub mod Passed
pub mod Told
pub mod CheckLaws
pub mod WrongChecks
