-- The theorems: the search for the number of buckets; and the agreement of the sizes with both shapes.
mod Logarithm
pub mod Shapes
