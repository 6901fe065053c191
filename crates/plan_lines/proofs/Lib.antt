pub mod Counted
pub mod Fields
pub mod Reach
