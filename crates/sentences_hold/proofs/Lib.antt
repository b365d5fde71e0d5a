pub mod Verdicts
pub mod Kind
pub mod Beside
pub mod Order
pub mod Ends
