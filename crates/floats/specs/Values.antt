-- Numbers, finite values, values from -64 to 64, and values that are equal but for the signs of zeros. Definitions only.
use Rattle.std.specs.Prelude.{◌≡◌, ◌⊎◌, not, true, false, pos, T}
use lib.Ieee.{Float, fin, Format, binary32, neg, le, fits, is_nan}
use lib.Ieee.Scale
use Rattle.floats.specs.Arithmetic.{sixty_four}
use Rattle.floats.specs.Leaves.{abs}

-- +0
abbrev pub pos_zero : Float
pos_zero = fin false 0 (pos 0)

-- equal, or both of them zeros
abbrev pub Alike : Float → Float → Type 0
Alike x y = (x ≡ y) ⊎ ((abs x ≡ pos_zero) × (abs y ≡ pos_zero))

-- a value of the format, and no NaN
pub record Number (f : Format) (x : Float) : Type 0 where
  pub fit : T (fits f x)
  pub no_nan : T (not (is_nan x))

-- a value of the format, neither a NaN nor an infinity
pub record Finite (f : Format) (x : Float) : Type 0 where
  pub fit : T (fits f x)
  pub finite : T (lib.Ieee.Scale.finite x)

-- from -64 to 64
pub record Within (v : Float) : Type 0 where
  pub number : Number binary32 v
  pub lowest : le (neg sixty_four) v ≡ true
  pub highest : le v sixty_four ≡ true
