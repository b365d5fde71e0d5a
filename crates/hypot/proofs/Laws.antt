-- The laws that the crates above cite. Nothing cites `hypot_nearest`, `hypot_only`, `hypot_mono` and `hypot_right` yet: they are kept for bounds on the error of
-- computed distances.
pub mod Signs
pub mod Nearest
pub mod Distance
