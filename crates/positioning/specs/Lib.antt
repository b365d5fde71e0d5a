pub mod Positioning
