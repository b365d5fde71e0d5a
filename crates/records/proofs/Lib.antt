pub mod Lent
pub mod Lying
pub mod Placed
