pub mod Arcs
pub mod Blank
pub mod Stepping
