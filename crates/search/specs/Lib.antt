pub mod Scans
pub mod Starts
pub mod Running
