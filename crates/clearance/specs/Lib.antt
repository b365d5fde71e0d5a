pub mod Clearance
