-- What the entry points promise, what two runs have in common, and what the core is given and leaves.
pub mod Promise
pub mod Agreement
pub mod Parts
