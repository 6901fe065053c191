pub mod Planning
pub mod Marked
