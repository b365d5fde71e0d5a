pub mod Stored
pub mod Faults
pub mod Filled
pub mod Places
pub mod Cases
pub mod Tests
