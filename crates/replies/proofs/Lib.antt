pub mod Pieces
mod Texts
pub mod Places
mod Lengths
mod Cases
