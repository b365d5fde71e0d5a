mod Back
mod Digits
pub mod Over
pub mod Lines
