-- What the steps make of the place words.
pub mod Label
pub mod Remove
