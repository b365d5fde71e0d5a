-- Rounding of whole numbers of units, as a format does it. Definitions only.
use Rattle.std.specs.Prelude.{ℕ, ◌+◌, ◌-◌, ◌*◌, ◌^◌, ◌≤◌}
use Rattle.std.specs.Float.{Format}
use Rattle.std.specs.Float.Ieee.{prec, size}
use Rattle.std.specs.Float.Ieee.Nearest.{closest}

-- how many digits the format drops of w
abbrev pub spare : Format → ℕ → ℕ
spare f w = size w - prec f

-- of the whole numbers that the format keeps, the one nearest to w, a tie to the even significand
unfoldable pub near : Format → ℕ → ℕ
near f w = closest w (2 ^ spare f w) * 2 ^ spare f w

-- n is at most half of u away from w
pub record Near (w n u : ℕ) : Type 0 where
  pub not_above : 2 * n ≤ 2 * w + u
  pub not_below_holds : 2 * w ≤ 2 * n + u

-- the distance of two whole numbers
abbrev pub apart : ℕ → ℕ → ℕ
apart a b = (a - b) + (b - a)
