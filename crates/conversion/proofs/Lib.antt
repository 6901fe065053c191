mod Writing
mod Reading
pub mod Answering
pub mod Theorems
