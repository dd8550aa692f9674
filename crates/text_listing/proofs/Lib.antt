pub mod Appending
pub mod PrintedDigits
pub mod PrintedSlack
pub mod SlackSize
pub mod Size
pub mod Laying
pub mod Samples
pub mod WrongListings
