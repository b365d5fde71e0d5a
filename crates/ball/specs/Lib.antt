pub mod Ball
pub mod Turned
