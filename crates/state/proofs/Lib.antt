pub mod Places
pub mod Slots
pub mod Tallies
pub mod Label
pub mod Find
pub mod Remove
