-- The search with no heap: it chooses the nearest node, keeps its invariant, ends, and gives cheapest paths; its counts; the
-- parent as the first arc examined that gives the final distance.
pub mod Nearest
pub mod Invariant
pub mod Relaxing
pub mod Scanning
pub mod Ends
pub mod Cheapest
pub mod Counts
pub mod First
