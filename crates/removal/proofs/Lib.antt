pub mod Counts
pub mod Current
pub mod Listed
