-- The order of floats as an order of natural numbers: `height f x` counts units of f's smallest value from -inf, at 0, upward. Both zeros are at `mid f`,
-- +inf at twice that, and a NaN one above it. A number lies above or below `mid f` by its magnitude, which is a whole number of units where x fits f.
-- Definitions only.
use Rattle.std.specs.Prelude.{ℕ, suc, ◌+◌, ◌-◌, ◌*◌, ◌/◌, ◌^◌, true, false, ℤ, Float}
use Rattle.std.specs.Float.{nan, inf, fin, Format}
use Rattle.std.specs.Float.Ieee.{emax, low, up, down}

-- the magnitude of m * 2 ^ e in units of the format's smallest value
abbrev pub mag : Format → ℕ → ℤ → ℕ
mag f m e = m * up e * 2 ^ low f / down e

-- the height of both zeros
unfoldable pub mid : Format → ℕ
mid f = 2 ^ (low f + suc (emax f))

unfoldable pub height : Format → Float → ℕ
height f nan = suc (mid f + mid f)
height f (inf true) = 0
height f (inf false) = mid f + mid f
height f (fin true m e) = mid f - mag f m e
height f (fin false m e) = mid f + mag f m e
