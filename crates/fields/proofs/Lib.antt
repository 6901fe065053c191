mod Digits
mod Formed
pub mod Lines
pub mod Decimals
pub mod Parsing
pub mod Written
pub mod LineReading
