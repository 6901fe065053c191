-- What the entry points promise, and what two runs have in common.
pub mod Promise
