mod ByKind
pub mod View
pub mod Placed
pub mod Back
