pub mod Plans
pub mod Promise
pub mod Filling
