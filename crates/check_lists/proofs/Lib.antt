pub mod Least
pub mod Start
pub mod Tests
pub mod Words
