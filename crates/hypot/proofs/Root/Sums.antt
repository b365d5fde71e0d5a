-- The squares of two f32s are exact in f64, so that their sum is rounded once.
use Rattle.std.proofs.Common.{◌≡◌, ℕ, ◌+◌, ◌*◌, ◌^◌, ◌<◌, Bool, true, false, ℤ, sym, refl, ap, ◌∙◌, subst, ap₂, true≢false, lt_of_lt_of_le, lt_of_le_of_lt, le_of_lt, mul_assoc, mul_comm, add-mul, mul-le-mul, mul-pos, mul_right_comm, two-mul, arith, pow_pos, pow_mono, pow-add, shl_lt}
use native.Mathlib.Nat.{mul-mul-mul_comm}
use lib.Ieee.{Float, nan, inf, fin, Format, binary64, up, down, round, sum, add, mul}
use lib.Ieee.Digits.{Equals}
use lib.Ieee.Fits.{down_pos}
use lib.Ieee.Exact.{HasValue, round_exact}
use lib.Ieee.Scale.{round_same}
use Rattle.hypot.specs.Hypot.{units_of, square}
use Rattle.hypot.proofs.Root.Units.{expo, sig, sig_lt, units_of_holds}
use Rattle.hypot.proofs.Root.Plus.{alike}

-- ---- the sum of two values, by fractions that they equal
pub add_at : (f : Format) (x y : Float) (a b c : ℕ) → 0 < c → HasValue x false a c → HasValue y false b c → add f x y ≡ round f false (a + b) c
unfolding add sum
add_at f nan y a b c C p q = absurd p
add_at f (inf s) y a b c C p q = absurd p
add_at f (fin true m e) y a b c C p q = absurd (true≢false p.0)
add_at f (fin false m e) nan a b c C p q = absurd q
add_at f (fin false m e) (inf t) a b c C p q = absurd q
add_at f (fin false m e) (fin true n d) a b c C p q = absurd (true≢false q.0)
add_at f (fin false m e) (fin false n d) a b c C p q =
    round_same f false (m * up e * down d + n * up d * down e) (down e * down d) (a + b) c (mul-pos (down_pos e) (down_pos d)) C
    (add-mul (m * up e * down d) (n * up d * down e) c
    ∙ ap₂ (λ (y z : ℕ). y + z)
    (mul_right_comm (m * up e) (down d) c ∙ ap (λ (z : ℕ). z * down d) p.1 ∙ mul_assoc a (down e) (down d))
    (mul_right_comm (n * up d) (down e) c ∙ ap (λ (z : ℕ). z * down e) q.1 ∙ mul_assoc b (down d) (down e) ∙ ap (λ (z : ℕ). b * z) (mul_comm (down d) (down e)))
    ∙ sym (add-mul a b (down e * down d)))

-- ---- the square of a magnitude is exact
module _ (p : ℕ) (small : p < 0x7f80_0000) where
  abbrev u : ℕ
  u = units_of p

  abbrev j : ℕ
  j = 2 * expo p + 776

  sig_small : sig p * sig p < 2 ^ 53
  sig_small = lt_of_le_of_lt (mul-le-mul (le_of_lt (sig_lt p)) (le_of_lt (sig_lt p))) (lib.Dec.lit< tt)

  -- in units of 2 ^ -1074
  in_units : u * u * 2 ^ 1074 ≡ sig p * sig p * 2 ^ j * 2 ^ 298
  in_units = ap (λ (z : ℕ). z * z * 2 ^ 1074) (units_of_holds p) ∙ shift (sig p) (2 ^ expo p) (2 ^ 776) (2 ^ 298) (2 ^ 1074) refl ∙ ap (λ (z : ℕ). sig p * sig p * z * 2 ^ 298) (sym (pow-add 2 (2 * expo p) 776 ∙ ap (λ (z : ℕ). z * 2 ^ 776) (ap (λ (z : ℕ). 2 ^ z) (two-mul (expo p)) ∙ pow-add 2 (expo p) (expo p))))
    where
      shift : (s q c d g : ℕ) → c * d ≡ g → (s * q) * (s * q) * g ≡ s * s * (q * q * c) * d
      shift s q c d g h = ap₂ (λ (y z : ℕ). y * z) (mul-mul-mul_comm s q s q) (sym h) ∙ sym (mul_assoc (s * s * (q * q)) c d) ∙ ap (λ (z : ℕ). z * d) (mul_assoc (s * s) (q * q) c)

  in_range : sig p * sig p * 2 ^ j < 2 ^ 2098
  in_range = lt_of_lt_of_le (shl_lt 53 j sig_small) (pow_mono {i = 53 + j} {j = 2098} (omega arith))

  exact_square : HasValue (round binary64 false (u * u) (2 ^ 298)) false (u * u) (2 ^ 298)
  exact_square = round_exact binary64 false (u * u) (2 ^ 298) (sig p * sig p) j (pow_pos 298) sig_small in_range in_units

  pub square_value : (s : Bool) (m : ℕ) (e : ℤ) → Equals (fin s m e) u (2 ^ 149) → HasValue (mul binary64 (fin s m e) (fin s m e)) false (square u) (2 ^ 298)
  unfolding mul
  square_value s m e h =
      subst (λ (x : Float). HasValue x false (u * u) (2 ^ 298))
      (sym (ap (λ (t : Bool). round binary64 t (m * up e * (m * up e)) (down e * down e)) (alike s) ∙ round_same binary64 false (m * up e * (m * up e)) (down e * down e) (u * u) (2 ^ 298) (mul-pos (down_pos e) (down_pos e)) (pow_pos 298) cross))
      exact_square
    where
      cross : m * up e * (m * up e) * 2 ^ 298 ≡ u * u * (down e * down e)
      cross = mul-mul-mul_comm (m * up e) (m * up e) (2 ^ 149) (2 ^ 149) ∙ ap (λ (z : ℕ). z * z) h ∙ mul-mul-mul_comm u (down e) u (down e)
