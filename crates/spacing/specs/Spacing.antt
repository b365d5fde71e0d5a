-- The places start - k * step and start + k * step, for k = 1, 2, .., each operation rounded. Definitions only.
use Rattle.std.specs.Prelude.{◌≡◌, true, List, ◌++◌, ℕ, suc, Float}
use Rattle.std.specs.Float.{binary32}
use Rattle.std.specs.Float.Ieee.{add, sub, mul, le}
use Rattle.lists.specs.Gather.{only_if}
use Rattle.floats.specs.Arithmetic.{sixty_fourth}
use Rattle.floats.specs.Leaves.{of_count}
use Rattle.floats.specs.Values.{Number}

-- 1/64 at least, or infinite
pub record Step (v : Float) : Type 0 where
  pub number : Number binary32 v
  pub lowest : le sixty_fourth v ≡ true

-- k * step
abbrev pub offset : Float → ℕ → Float
offset step k = mul binary32 (of_count k) step

-- start - k * step
abbrev pub down_by : Float → Float → ℕ → Float
down_by start step k = sub binary32 start (offset step k)

-- start + k * step
abbrev pub up_by : Float → Float → ℕ → Float
up_by start step k = add binary32 start (offset step k)

-- the places of k = i + 1: the lower one and the upper one, each where it is within its bound
abbrev pub places_at : Float → Float → Float → Float → ℕ → List Float
places_at start low high step i =
    only_if (le low (down_by start step (suc i))) (down_by start step (suc i)) ++ only_if (le (up_by start step (suc i)) high) (up_by start step (suc i))
