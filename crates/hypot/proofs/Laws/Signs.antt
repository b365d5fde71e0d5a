-- Laws of signs of `hypot`: the operands' signs do not matter, and the operands may change places. Nothing is asked of them. Assumes nothing.
use Rattle.std.proofs.Common.{◌≡◌, ℕ, ◌*◌, sym, refl, ap, ◌∙◌, ap₂, add_comm}
use lib.Ieee.{Float, nan, inf, fin, binary32, of_bits}
use Rattle.floats.specs.Leaves.{with_sign, abs}
use Rattle.hypot.specs.Hypot.{hypot, nearest_root, magnitude}

pub hypot_comm : (x y : Float) → hypot x y ≡ hypot y x
unfolding hypot
hypot_comm nan nan = refl
hypot_comm nan (inf t) = refl
hypot_comm nan (fin t n d) = refl
hypot_comm (inf s) nan = refl
hypot_comm (inf s) (inf t) = refl
hypot_comm (inf s) (fin t n d) = refl
hypot_comm (fin s m e) nan = refl
hypot_comm (fin s m e) (inf t) = refl
hypot_comm (fin s m e) (fin t n d) = ap (λ (z : ℕ). of_bits binary32 (nearest_root z)) (add_comm (magnitude m e * magnitude m e) (magnitude n d * magnitude n d))

-- so only the magnitudes matter
pub hypot_abs_left : (x y : Float) → hypot (abs x) y ≡ hypot x y
unfolding hypot with_sign
hypot_abs_left nan nan = refl
hypot_abs_left nan (inf t) = refl
hypot_abs_left nan (fin t n d) = refl
hypot_abs_left (inf s) y = refl
hypot_abs_left (fin s m e) nan = refl
hypot_abs_left (fin s m e) (inf t) = refl
hypot_abs_left (fin s m e) (fin t n d) = refl

pub hypot_abs : (x y : Float) → hypot (abs x) (abs y) ≡ hypot x y
hypot_abs x y = hypot_abs_left x (abs y) ∙ hypot_comm x (abs y) ∙ hypot_abs_left y x ∙ hypot_comm y x

-- so magnitudes that are equal give one value
pub hypot_by_abs : (x x' y y' : Float) → abs x ≡ abs x' → abs y ≡ abs y' → hypot x y ≡ hypot x' y'
hypot_by_abs x x' y y' h k = sym (hypot_abs x y) ∙ ap₂ hypot h k ∙ hypot_abs x' y'
