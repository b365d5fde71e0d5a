-- The laws that the crates above cite. Nothing cites `add_half_ulp`, `sub_mono`, `sub_exact`, `mul_exact`, `round_falls`, `min_height` and `max_height` yet:
-- they are kept for bounds on the error of computed margins and distances.
pub mod Signs
pub mod Height
pub mod Order
pub mod MinMax
pub mod Near
pub mod Rounding
pub mod Zeros
pub mod Constants
pub mod Within
pub mod Products
