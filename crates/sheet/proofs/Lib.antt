mod BlockLaws
mod Written
pub mod Texts
pub mod Answers
pub mod Room
