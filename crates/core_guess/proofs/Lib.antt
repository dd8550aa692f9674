pub mod WholeDoubles
pub mod Joining
pub mod Wishing
pub mod WrongGuesses
