pub mod Others
pub mod Signs
pub mod Turned
pub mod Bounds
