mod Answered
mod Holds
mod Lists
mod Passed
mod Progress
pub mod Runnable
pub mod Told
