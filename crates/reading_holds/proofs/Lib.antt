pub mod Refusals
pub mod Written
mod Values
pub mod Orderly
mod Faithful
mod FaithfulPlaces
pub mod Items
pub mod Back
mod Blocks
mod Ordered
pub mod Body
pub mod Sheet
pub mod ReadBack
