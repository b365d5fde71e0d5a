pub mod Stored
pub mod Bounds
pub mod Continued
pub mod Count
pub mod Cases
