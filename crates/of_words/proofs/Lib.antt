pub mod Fit
pub mod HalfTurn
