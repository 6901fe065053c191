-- The theorems, from the bottom up: the table, which is computed; the two numberings of the arcs; the reversed map's lists; its routes; cheapest
-- routes to a destination; demands 2 and 3 of both runs to it.
pub mod Marked
pub mod Numbers
pub mod Valid
pub mod Routes
pub mod Cheapest
pub mod Demanded
