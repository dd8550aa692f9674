pub mod Bytes
pub mod Lines
pub mod Numeral
pub mod Taking
pub mod LineAt
