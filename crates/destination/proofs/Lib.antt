-- What an accepted run to a destination leaves, and that both heaps agree.
pub mod Accepted
pub mod Agreement
