pub mod Accepted
pub mod Parts
pub mod Sides
pub mod Told
pub mod Changed
pub mod HalfTurn
pub mod KickPlace
pub mod Few
