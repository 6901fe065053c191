-- A valid map: its network is admissible, an arc has one tail, and routes of the map are paths of the network.
pub mod Arcs
pub mod Tails
pub mod Routes
