pub mod Answered
pub mod Marked
mod Zero
pub mod Theorems
