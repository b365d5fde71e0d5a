pub mod Refused
pub mod Accepted
pub mod Numbers
