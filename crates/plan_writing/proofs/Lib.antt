mod Walk
mod Holds
mod Whole
