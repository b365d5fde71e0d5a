pub mod Framed
pub mod Walk
