pub mod Arithmetic
pub mod Leaves
pub mod Compare
pub mod Values
pub mod Height
pub mod Near
pub mod Units
