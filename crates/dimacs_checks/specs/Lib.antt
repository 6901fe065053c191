pub mod Checking
pub mod Finding
