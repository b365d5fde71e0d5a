pub mod Chosen
pub mod Margins
pub mod Played
pub mod Refused
