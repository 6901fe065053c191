pub mod Powers
pub mod Stored
