pub mod Ticks
pub mod Directions
pub mod Counts
pub mod Places
