-- The reversed map, its routes, what is demanded of a run to a destination, and a table of such (document 02, paper 7).
pub mod Reversed
pub mod Routes
pub mod Demands
pub mod Marked
