-- The theorems, from the bottom up: the marked edges, which are computed; laws of sums and lists; the search; the heap over any
-- lawful shape; the two shapes; maps and their routes; demands 2 and 3 of both runs.
pub mod Edges
pub mod Cases
pub mod Sums
pub mod Lists
pub mod Search
pub mod Heap
pub mod Shapes
pub mod Maps
pub mod Demands
pub mod Removals
