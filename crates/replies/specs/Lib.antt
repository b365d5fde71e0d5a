pub mod Labels
pub mod Names
pub mod Texts
pub mod Replies
