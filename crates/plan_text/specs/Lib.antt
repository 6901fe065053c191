pub mod Rendering
pub mod Files
pub mod ReadBack
