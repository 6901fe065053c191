pub mod Promise
pub mod Marked
