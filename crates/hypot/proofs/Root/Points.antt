-- Patterns of binary64 by the points halfway between two values of binary32: a pattern that is 150000 or more off such a point is off it by more than a part in 2 ^ 36.
use Rattle.std.proofs.Common.{◌≡◌, ℕ, suc, ◌+◌, ◌-◌, ◌*◌, ◌^◌, ◌<◌, ◌≤◌, false, sym, refl, ap, ◌∙◌, subst, ap₂, inr, le_trans, le_of_eq, lt_of_lt_of_le, lt_of_le_of_lt, mul-le-mul_right, mul_assoc, mul_comm, add-mul, mul-le-mul, mul-pos, mul-suc, mul-add, mul_right_comm, arith, pow_pos, pow_mono, pow-add, shl_lt}
use native.Mathlib.Nat.{mul-mul-mul_comm}
use lib.Ieee.{binary64, round}
use lib.Ieee.Exact.{HasValue, round_exact}
use Rattle.hypot.specs.Hypot.{halfway, square}
use Rattle.hypot.proofs.Root.Units.{expo, sig, whole, sig_lt, led, halfway_at}
use Rattle.hypot.proofs.Root.Units64.{units64, units64_at, units64_le}
use Rattle.hypot.proofs.Root.Seek.{sq_le}

-- ---- squares of numbers below 2 ^ 53 that differ by 150000
expand : (a d : ℕ) → (a + d) * (a + d) ≡ a * a + d * a + (d * a + d * d)
expand a d = add-mul a d (a + d) ∙ ap₂ (λ (y z : ℕ). y + z) (mul-add a a d ∙ ap (λ (z : ℕ). a * a + z) (mul_comm a d)) (mul-add d a d)

-- by more than a part in w
apart : (w a : ℕ) → a ≤ 9007199254740992 → 9007199254740992 ≤ 300000 * w → a * a * suc w ≤ (a + 150000) * (a + 150000) * w
apart w a h k =
    le_trans (le_of_eq (mul-suc (a * a) w))
    (le_trans (grow (a * a) (a * a * w) (300000 * a * w) step)
    (le_trans (le_of_eq (sym (add-mul (a * a) (300000 * a) w)))
    (mul-le-mul_right w (wide (a * a) ((a + 150000) * (a + 150000)) (expand a 150000)))))
  where
    step : a * a ≤ 300000 * a * w
    step = le_trans (mul-le-mul_right a h) (le_trans (mul-le-mul_right a k) (le_of_eq (mul_right_comm 300000 w a)))

    grow : (q y d : ℕ) → q ≤ d → y + q ≤ y + d
    grow q y d l = omega arith

    wide : (q z : ℕ) → z ≡ q + 150000 * a + (150000 * a + 22500000000) → q + 300000 * a ≤ z
    wide q z e = omega arith

-- ---- from significands to magnitudes: y stands for the square of the unit, g for the square of what brings a point's units to binary64's
swap : (a b c d : ℕ) → a * b * c * d ≡ a * c * (b * d)
swap a b c d = ap (λ (z : ℕ). z * d) (mul_assoc a b c ∙ ap (λ (z : ℕ). a * z) (mul_comm b c) ∙ sym (mul_assoc a c b)) ∙ mul_assoc (a * c) b d

to_point : (m y h g u p q : ℕ) → m * y ≡ h * g → g * p ≡ q → m * u * (y * p) ≡ h * u * q
to_point m y h g u p q a b = mul-mul-mul_comm m u y p ∙ ap (λ (z : ℕ). z * (u * p)) a ∙ mul-mul-mul_comm h g u p ∙ ap (λ (z : ℕ). h * u * z) b

chain_below : (o n m y h g w u p q : ℕ) → o ≤ n * y → n * w ≤ m * u → m * y ≡ h * g → g * p ≡ q → o * w * p ≤ h * u * q
chain_below o n m y h g w u p q a b c d =
    le_trans (mul-le-mul_right p (mul-le-mul_right w a))
    (le_trans (le_of_eq (swap n y w p))
    (le_trans (mul-le-mul_right (y * p) b) (le_of_eq (to_point m y h g u p q c d))))

chain_above : (o n m y h g w u p q : ℕ) → n * y ≤ o → m * u ≤ n * w → m * y ≡ h * g → g * p ≡ q → h * u * q ≤ o * w * p
chain_above o n m y h g w u p q a b c d =
    le_trans (le_of_eq (sym (to_point m y h g u p q c d)))
    (le_trans (mul-le-mul_right (y * p) b)
    (le_trans (le_of_eq (sym (swap n y w p))) (mul-le-mul_right p (mul-le-mul_right w a))))

module _ (b : ℕ) (lo : 0x80_0000 ≤ b) (hi : b < 0x7f80_0000) where
  abbrev e : ℕ
  e = expo b

  abbrev r : ℕ
  r = sig b

  abbrev x : ℕ
  x = e + 896

  -- the point's significand at binary64
  abbrev M : ℕ
  M = (2 * r + 1) * 268435456

  r_big : 8388608 ≤ r
  r_big = omega arith

  M-is : (M ≤ 9007199254740992 - 268435456) × (4503599627370496 + 268435456 ≤ M)
  M-is = (omega (arith, sig_lt b), omega (arith, r_big))

  place : x * 4503599627370496 + M ≡ (b + 0x1_c000_0000) * 0x2000_0000 + 0x1000_0000
  place = omega arith

  half : halfway b ≡ (2 * r + 1) * 2 ^ e
  half = ap halfway (sym (whole b)) ∙ halfway_at e r (led b) (sig_lt b)

  raised : M * 2 ^ x ≡ halfway b * 2 ^ 924
  raised = ap (λ (z : ℕ). M * z) (pow-add 2 e 896) ∙ mul-mul-mul_comm (2 * r + 1) 268435456 (2 ^ e) (2 ^ 896) ∙ ap (λ (z : ℕ). z * 2 ^ 924) (sym half)

  squared : M * M * (2 ^ x * 2 ^ x) ≡ square (halfway b) * 2 ^ 1848
  squared = mul-mul-mul_comm M M (2 ^ x) (2 ^ x) ∙ ap (λ (z : ℕ). z * z) raised ∙ mul-mul-mul_comm (halfway b) (2 ^ 924) (halfway b) (2 ^ 924)

  at : (f : ℕ) → 4503599627370496 ≤ f → f ≤ 9007199254740992 → units64 (x * 4503599627370496 + f) ≡ f * 2 ^ x
  at f l h = units64_at x f (inr l) h

  sq_at : (f : ℕ) → 4503599627370496 ≤ f → f ≤ 9007199254740992 → units64 (x * 4503599627370496 + f) * units64 (x * 4503599627370496 + f) ≡ f * f * (2 ^ x * 2 ^ x)
  sq_at f l h = ap (λ (z : ℕ). z * z) (at f l h) ∙ mul-mul-mul_comm f (2 ^ x) f (2 ^ x)

  pub below : (p : ℕ) → p + 150000 ≤ (b + 0x1_c000_0000) * 0x2000_0000 + 0x1000_0000
      → units64 p * units64 p * 34359738368 * 2 ^ 300 ≤ square (halfway b) * 34359738367 * 2 ^ 2148
  below p h =
      chain_below (units64 p * units64 p) (f * f) (M * M) (2 ^ x * 2 ^ x) (square (halfway b)) (2 ^ 1848) 34359738368 34359738367 (2 ^ 300) (2 ^ 2148)
      (le_trans (sq_le (units64 p) (units64 (x * 4503599627370496 + f)) (units64_le p (x * 4503599627370496 + f) (omega (arith, place, M-is)))) (le_of_eq (sq_at f (omega (arith, M-is)) (omega (arith, M-is)))))
      (subst (λ (z : ℕ). f * f * 34359738368 ≤ z * z * 34359738367) back (apart 34359738367 f (omega (arith, M-is)) (lib.Dec.lit≤ tt)))
      squared
      refl
    where
      f : ℕ
      f = M - 150000

      back : f + 150000 ≡ M
      back = omega (arith, M-is)

  pub above : (p : ℕ) → (b + 0x1_c000_0000) * 0x2000_0000 + 0x1000_0000 + 150000 ≤ p
      → square (halfway b) * 34359738369 * 2 ^ 2148 ≤ units64 p * units64 p * 34359738368 * 2 ^ 300
  above p h =
      chain_above (units64 p * units64 p) (f * f) (M * M) (2 ^ x * 2 ^ x) (square (halfway b)) (2 ^ 1848) 34359738368 34359738369 (2 ^ 300) (2 ^ 2148)
      (le_trans (le_of_eq (sym (sq_at f (omega (arith, M-is)) (omega (arith, M-is))))) (sq_le (units64 (x * 4503599627370496 + f)) (units64 p) (units64_le (x * 4503599627370496 + f) p (omega (arith, place, M-is)))))
      (apart 34359738368 M (omega (arith, M-is)) (lib.Dec.lit≤ tt))
      squared
      refl
    where
      f : ℕ
      f = M + 150000

  -- ---- the square of the point is exact at binary64
  odd_small : (2 * r + 1) * (2 * r + 1) < 2 ^ 53
  odd_small = lt_of_le_of_lt (mul-le-mul {n₁ = 2 * r + 1} {m₁ = 2 * r + 1} {n₂ = 33554432} {m₂ = 33554432} (omega (arith, sig_lt b)) (omega (arith, sig_lt b))) (lib.Dec.lit< tt)

  abbrev j : ℕ
  j = e + e + 774

  in_range : (2 * r + 1) * (2 * r + 1) * 2 ^ j < 2 ^ 2098
  in_range = lt_of_lt_of_le (shl_lt 53 j odd_small) (pow_mono {i = 53 + j} {j = 2098} (omega arith))

  in_units : square (halfway b) * 2 ^ 1074 ≡ (2 * r + 1) * (2 * r + 1) * 2 ^ j * 2 ^ 300
  in_units =
      ap (λ (z : ℕ). z * z * 2 ^ 1074) half
      ∙ ap (λ (z : ℕ). z * 2 ^ 1074) (mul-mul-mul_comm (2 * r + 1) (2 ^ e) (2 * r + 1) (2 ^ e))
      ∙ sym (ap (λ (z : ℕ). (2 * r + 1) * (2 * r + 1) * z * 2 ^ 300) (pow-add 2 (e + e) 774 ∙ ap (λ (z : ℕ). z * 2 ^ 774) (pow-add 2 e e))
      ∙ ap (λ (z : ℕ). z * 2 ^ 300) (sym (mul_assoc ((2 * r + 1) * (2 * r + 1)) (2 ^ e * 2 ^ e) (2 ^ 774)))
      ∙ mul_assoc ((2 * r + 1) * (2 * r + 1) * (2 ^ e * 2 ^ e)) (2 ^ 774) (2 ^ 300))

  pub exact_point : HasValue (round binary64 false (square (halfway b)) (2 ^ 300)) false (square (halfway b)) (2 ^ 300)
  exact_point = round_exact binary64 false (square (halfway b)) (2 ^ 300) ((2 * r + 1) * (2 * r + 1)) j (pow_pos 300) odd_small in_range in_units

  pub point_pos : 0 < square (halfway b)
  point_pos = let h : 0 < halfway b = subst (λ (z : ℕ). 0 < z) (sym half) (mul-pos {m = 2 * r + 1} {n = 2 ^ e} (omega arith) (pow_pos e)) in mul-pos h h
