pub mod Kicker
pub mod KickerKeys
