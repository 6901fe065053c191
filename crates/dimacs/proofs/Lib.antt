mod Passing
mod Answered
mod Next
mod Storing
pub mod Runnable
pub mod Marked
