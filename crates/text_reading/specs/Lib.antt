pub mod Readings
pub mod Texts
pub mod Parts
pub mod Printed
pub mod Works
pub mod Problems
