pub mod Nan
pub mod Whole
pub mod SignBit
pub mod Laws
pub mod Cases
