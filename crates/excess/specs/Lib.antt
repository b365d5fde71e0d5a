pub mod Excess
pub mod ExcessKeys
