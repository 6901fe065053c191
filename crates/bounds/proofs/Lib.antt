-- The theorems: what setting bounds anew leaves; the first bounds; the search for a bucket; segments; and what a shape says of words
-- that agree with it.
pub mod Rebound
pub mod Words
pub mod First
pub mod Bucket
pub mod Segments
pub mod Inside
pub mod Agreement
