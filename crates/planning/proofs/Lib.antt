pub mod Reading
pub mod Both
pub mod Answering
pub mod Marked
