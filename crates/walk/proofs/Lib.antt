pub mod Distinct
pub mod Spelled
pub mod Tails
pub mod Walking
