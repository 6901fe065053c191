pub mod Copied
pub mod Rule
pub mod Table
pub mod Used
