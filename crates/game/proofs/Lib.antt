pub mod Listing
pub mod Numbered
pub mod Others
