pub mod Placing
pub mod Passes
pub mod Balance
pub mod Remarking
pub mod Hanging
pub mod WrongBalances
