pub mod Fraction
pub mod Divide
pub mod Nearest
pub mod Slack
pub mod Total
