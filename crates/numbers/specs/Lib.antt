pub mod Numbers
pub mod Walk
