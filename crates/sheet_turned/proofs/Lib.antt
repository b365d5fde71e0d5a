mod Low
pub mod Values
pub mod Sheet
