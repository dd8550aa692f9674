pub mod Telling
pub mod TwoLaid
pub mod WrongTellings
