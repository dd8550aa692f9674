pub mod Blocks
pub mod Guess
pub mod WholeDoubles
