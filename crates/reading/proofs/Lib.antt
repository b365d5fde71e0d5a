pub mod All
pub mod Lists
pub mod Body
pub mod Parts
pub mod Longest
mod Flags
mod Only
mod Blocks
mod ItemKinds
mod Runs
mod Fits
mod Clauses
mod Ranks
mod Steps
mod Places
mod ByRule
mod Accepts
mod Walked
pub mod Answers
mod Cases
