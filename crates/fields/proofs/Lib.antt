mod DigitLaws
mod Places
pub mod Columns
pub mod Rows
pub mod Texts
mod Walks
mod Told
