pub mod Decimal
pub mod Pushed
