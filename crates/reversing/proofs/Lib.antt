mod Numbers
mod Written
mod Placing
mod Tails
pub mod Reversing
