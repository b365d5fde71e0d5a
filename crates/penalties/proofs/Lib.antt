pub mod Some
pub mod Turns
