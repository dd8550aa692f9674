pub mod Places
pub mod Round
pub mod RoundingCases
pub mod Slack
