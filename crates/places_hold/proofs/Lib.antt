mod Under
mod Candidates
mod Lines
pub mod Placed
pub mod OfWords
pub mod Earlier
