pub mod Whole
pub mod Ring
pub mod Quotient
pub mod Sum
pub mod Samples
