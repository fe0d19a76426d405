pub mod Constructing
pub mod Declarations
pub mod Opens
pub mod Orders
pub mod Positions
pub mod Rooms
pub mod Seats
pub mod Settles
