pub mod Nearest
pub mod Changed
