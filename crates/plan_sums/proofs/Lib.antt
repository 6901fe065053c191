pub mod Passed
pub mod Summing
