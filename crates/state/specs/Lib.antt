-- What the words of a run stand for: the place words, the setting of a run, and the relation between words and steps.
pub mod Places
pub mod Slots
pub mod Stands
pub mod Tallies
