pub mod Seats
pub mod Climbs
pub mod Apart
pub mod UnitNames
pub mod OrdinaryNames
pub mod UnitUniverse
pub mod Running
