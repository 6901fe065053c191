pub mod Settings
pub mod Fronts
pub mod Accepted
pub mod Agreement
