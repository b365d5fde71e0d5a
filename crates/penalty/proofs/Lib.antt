pub mod Turns
pub mod Choosing
pub mod Told
pub mod Sizes
pub mod Meant
pub mod Bounds
pub mod Turned
