pub mod Turned
pub mod Judging
