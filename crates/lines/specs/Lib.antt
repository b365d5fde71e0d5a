pub mod Over
pub mod Line
