pub mod Promise
pub mod Demand3
pub mod TwoCalls
pub mod Opposite
pub mod Part
pub mod Answered
pub mod BenchCalls
