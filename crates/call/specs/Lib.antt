pub mod Call
pub mod Claims
