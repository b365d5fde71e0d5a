pub mod Avoidance
