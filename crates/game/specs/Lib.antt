pub mod Game
pub mod Players
pub mod Codes
