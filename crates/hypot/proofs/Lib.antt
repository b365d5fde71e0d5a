pub mod Root
pub mod Laws
pub mod Cases
