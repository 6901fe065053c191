pub mod Roads
pub mod Promise
pub mod Filling
pub mod Marked
