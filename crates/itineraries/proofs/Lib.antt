pub mod Lines
pub mod Routed
pub mod Reaching
pub mod Listing
pub mod Answering
pub mod Served
pub mod Shown
