pub mod Sizes
pub mod Turned
