pub mod ExcessKeys
pub mod ExcessLaws
