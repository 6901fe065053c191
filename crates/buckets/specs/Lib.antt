mod Lists
pub mod Words
pub mod Tally
pub mod Links
pub mod Answer
