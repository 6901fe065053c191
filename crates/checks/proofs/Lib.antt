pub mod Order
pub mod Sizes
pub mod Valid
pub mod Numbered
