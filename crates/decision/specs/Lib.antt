pub mod Decision
pub mod Fit
pub mod Changed
pub mod HalfTurn
pub mod KickPlace
