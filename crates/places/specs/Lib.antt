pub mod Places
pub mod Turned
