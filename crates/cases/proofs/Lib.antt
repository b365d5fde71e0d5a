pub mod Opened
pub mod Candidates
pub mod Table
pub mod HalfTurn
pub mod Excess
pub mod Kicker
pub mod Places
