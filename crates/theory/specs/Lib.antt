-- The definitions, from the bottom up: maps and routes; networks and paths; the search; the shapes of the two heaps; the
-- steps of a heap; the two runs; what is demanded of them; the marked edges.
pub mod Sums
pub mod Maps
pub mod Network
pub mod Search
pub mod Examined
pub mod Shape
pub mod Heap
pub mod Runs
pub mod Demands
pub mod Lawful
pub mod Invariants
pub mod Edges
pub mod Removals
