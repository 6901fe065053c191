pub mod Sizing
pub mod Runs
