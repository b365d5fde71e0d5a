pub mod Geometry
pub mod Turned
