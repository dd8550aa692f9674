pub mod Listing
pub mod Appended
