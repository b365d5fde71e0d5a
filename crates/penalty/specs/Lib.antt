pub mod Penalty
pub mod Walk
pub mod Meant
