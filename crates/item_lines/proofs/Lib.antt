mod Values
mod Lengths
pub mod ItemLines
mod Cases
