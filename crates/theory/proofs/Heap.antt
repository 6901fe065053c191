-- The heap over any lawful shape: it picks the search's node, keeps its bounds and buckets right, shifts to strictly lower
-- buckets, does what the search does, ends, and keeps its counts within their bounds.
pub mod Laws
pub mod Rebound
pub mod Bounds
pub mod Buckets
pub mod Shift
pub mod Invariant
pub mod Pick
pub mod Remove
pub mod Label
pub mod Count
pub mod Run
