pub mod Itineraries
