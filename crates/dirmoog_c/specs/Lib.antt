pub mod Exported
pub mod TwoLaid
pub mod Texted
