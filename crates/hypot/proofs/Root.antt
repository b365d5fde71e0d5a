-- The argument that `hypot` is the nearest value, in the order in which it is built up.
pub mod Patterns
pub mod Units
pub mod Seek
pub mod Values
pub mod Nearest
pub mod Rounds
pub mod Squares
pub mod Small
pub mod Tiny
pub mod Whole
pub mod Far
pub mod Order
pub mod Plus
pub mod Units64
pub mod Points
pub mod Sums
pub mod Sure
