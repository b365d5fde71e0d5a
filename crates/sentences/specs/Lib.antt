pub mod Sentences
pub mod Claims
