pub mod Entering
pub mod Labelling
pub mod Relaxation
pub mod Staying
