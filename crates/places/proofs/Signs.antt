-- How a coordinate of a place changes when x or y changes its sign, or neither. Assumes nothing.
use mathlib.Core.Path.{◌≡◌, refl}
use mathlib.Core.Logic.{inl, inr}
use mathlib.Core.Bool.{Bool, true, false, not}
use lib.Dec.{T}
use lib.Ieee.{Float, binary32, neg, fits, is_nan, of_bits}
use Rattle.floats.specs.Arithmetic.{◌*₃₂◌, zero32}
use Rattle.floats.specs.Leaves.{copysign, clamp, with_sign}
use Rattle.floats.specs.Values.{Alike}
use Rattle.floats.proofs.Laws.Signs.{mul_neg_left, copysign_neg}
use Rattle.floats.proofs.Laws.MinMax.{clamp_neg}
use Rattle.geometry.specs.Turned.{signed}

-- a team's sign alone: the place changes with it
pub place_changed : (a : Bool) (s x : Float) → signed a s *₃₂ x ≡ signed a (s *₃₂ x)
place_changed true s x = mul_neg_left binary32 s x
place_changed false s x = refl

pub copysign_changed : (a : Bool) (x y : Float) → T (not (is_nan y)) → copysign x (signed a y) ≡ signed a (copysign x y)
copysign_changed true x y n = copysign_neg x y n
copysign_changed false x y n = refl

pub clamp_changed : (a : Bool) (x h : Float) → T (fits binary32 x) → T (fits binary32 h) → clamp (signed a x) (neg h) h ≡ signed a (clamp x (neg h) h)
clamp_changed true x h p q = clamp_neg binary32 x h p q
clamp_changed false x h p q = refl

-- the zero of a place is a zero after it too
pub zero_changed : (a : Bool) → Alike zero32 (signed a zero32)
unfolding of_bits with_sign neg
zero_changed true = inr (refl, refl)
zero_changed false = inl refl
