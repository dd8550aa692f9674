pub mod PlaceLimits
pub mod Rounding
pub mod RoundingCases
pub mod HalvesUp
pub mod Slacks
pub mod Samples
pub mod WrongRoundings
pub mod WrongSlacks
