pub mod Fractions
pub mod Divisor
pub mod Ordering
pub mod Nearest
pub mod Slacks
pub mod WrongDivisors
