pub mod Written
mod Pieces
mod Once
pub mod Claims
mod Cases
