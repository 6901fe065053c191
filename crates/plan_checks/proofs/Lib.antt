pub mod Held
mod Passing
pub mod Shown
mod Whole
