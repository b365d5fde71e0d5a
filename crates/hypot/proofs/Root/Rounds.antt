-- From the root with one bit below the halfway points' unit, and whether that is exact, to the nearest pattern.
use Rattle.std.proofs.Common.{◌≡◌, ℕ, zero, suc, ◌+◌, ◌*◌, ◌/◌, ◌%◌, ◌^◌, ◌<◌, ◌≤◌, min, Bool, not, T, eqb, ◌⊎◌, sym, refl, ap, ◌∙◌, subst, inl, inr, zero-le, le_trans, le_of_eq, lt_of_lt_of_le, lt_of_le_of_lt, le_of_lt, mul-le-mul_right, mul_assoc, arith, pow_pos, eq-eqb, ne_eqb}
use native.Mathlib.Nat.{pow-succ'}
use Rattle.hypot.specs.Hypot.{units_of, halfway, past, nearest_root}
use Rattle.hypot.specs.Steps.{out_4, out_8}
use Rattle.hypot.proofs.Root.Units.{Led, units_at_holds, units_next, halfway_at}
use Rattle.hypot.proofs.Root.Seek.{Turns, seek_finds, past_yes, past_no, past_tie, sq_le, sq_lt, sq_twice, turns_here, turns_next}

pub nearest_is : (n b : ℕ) → Turns n b → b < 2147483648 → nearest_root n ≡ min b 0x7f80_0000
unfolding nearest_root
nearest_is n b t h = ap (λ (x : ℕ). min x 0x7f80_0000) (seek_finds n b t 31 0 zero-le (omega arith))

-- The root of 4 * n is t * 2 ^ e, and x is 0; or it lies between that and (t + 1) * 2 ^ e, and x is 1.
pub record Root (n e t x : ℕ) : Type 0 where
  pub upper : 4 * n < ((t + 1) * 2 ^ e) * ((t + 1) * 2 ^ e)
  pub lower : ((x ≡ 0) × (4 * n ≡ (t * 2 ^ e) * (t * 2 ^ e))) ⊎ ((x ≡ 1) × ((t * 2 ^ e) * (t * 2 ^ e) < 4 * n))

at_least : (n e t x : ℕ) → Root n e t x → (t * 2 ^ e) * (t * 2 ^ e) ≤ 4 * n
at_least n e t x r = elim r.lower [ inl p ↦ le_of_eq (sym p.1) | inr p ↦ le_of_lt p.1 ]

-- the same at any multiples of the unit
scaled_le : (a b u : ℕ) → a ≤ b → (a * u) * (a * u) ≤ (b * u) * (b * u)
scaled_le a b u h = sq_le (a * u) (b * u) (mul-le-mul_right u h)

double : (a u : ℕ) → 2 * (a * u) ≡ 2 * a * u
double a u = sym (mul_assoc 2 a u)

below_four : (a n : ℕ) → 4 * a ≤ 4 * n → a ≤ n
below_four a n h = omega arith

above_four : (a n : ℕ) → 4 * n < 4 * a → n < a
above_four a n h = omega arith

-- With the pattern b of the significand f and E fields, where 2 * f * 2 ^ E is at most the root and 2 * (f + 1) * 2 ^ E above it.
-- k is how many of the units 2 ^ e there are in 2 ^ E.
module _ (n e t x E f k : ℕ) (r : Root n e t x) (unit : 2 ^ E ≡ k * 2 ^ e) (d : Led E f) (small : f < 16777216)
    (from : 2 * f * k ≤ t) (to : t + 1 ≤ 2 * suc f * k) where
  b : ℕ
  b = E * 8388608 + f

  at : (a : ℕ) → a * 2 ^ E ≡ a * k * 2 ^ e
  at a = ap (λ (z : ℕ). a * z) unit ∙ sym (mul_assoc a k (2 ^ e))

  lo : units_of b * units_of b ≤ n
  unfolding b
  lo =
      below_four (units_of b * units_of b) n
      (le_trans (le_of_eq (sym (sq_twice (units_of b))))
      (le_trans (le_of_eq (ap (λ (z : ℕ). z * z) (ap (λ (z : ℕ). 2 * z) (units_at_holds E f d (le_of_lt small)) ∙ double f (2 ^ E) ∙ at (2 * f))))
      (le_trans (scaled_le (2 * f * k) t (2 ^ e) from) (at_least n e t x r))))

  hi : n < units_of (suc b) * units_of (suc b)
  unfolding b
  hi =
      above_four (units_of (suc b) * units_of (suc b)) n
      (lt_of_lt_of_le r.upper
      (le_trans (scaled_le (t + 1) (2 * suc f * k) (2 ^ e) to)
      (le_trans (le_of_eq (ap (λ (z : ℕ). z * z) (sym (ap (λ (z : ℕ). 2 * z) (units_next E f d small) ∙ double (suc f) (2 ^ E) ∙ at (2 * suc f)))))
      (le_of_eq (sq_twice (units_of (suc b)))))))

  half : halfway b ≡ (2 * f + 1) * k * 2 ^ e
  unfolding b
  half = halfway_at E f d small ∙ at (2 * f + 1)

  -- the root is before the halfway point
  pub down : t + 1 ≤ (2 * f + 1) * k → Turns n (E * 8388608 + f)
  unfolding b
  down h =
      turns_here n b lo hi
      (past_no n b (lt_of_lt_of_le r.upper (le_trans (scaled_le (t + 1) ((2 * f + 1) * k) (2 ^ e) h) (le_of_eq (ap (λ (z : ℕ). z * z) (sym half))))))

  -- it is after it
  pub beyond_it : (2 * f + 1) * k < t → Turns n (suc (E * 8388608 + f))
  unfolding b
  beyond_it h =
      turns_next n b lo hi
      (past_yes n b
      (lt_of_le_of_lt (le_of_eq (ap (λ (z : ℕ). z * z) half))
      (lt_of_lt_of_le (sq_lt ((2 * f + 1) * k * 2 ^ e) (t * 2 ^ e) (strict ((2 * f + 1) * k) t h)) (at_least n e t x r))))
    where
      strict : (a c : ℕ) → a < c → a * 2 ^ e < c * 2 ^ e
      strict a c l = native.Mathlib.Nat.mul-lt-mul_of_pos_right l (pow_pos e)

  -- it is at t, where the halfway point is: after it unless it is exact
  pub inexact : (2 * f + 1) * k ≡ t → x ≡ 1 → Turns n (suc (E * 8388608 + f))
  unfolding b
  inexact h o =
      turns_next n b lo hi
      (past_yes n b (subst (λ (z : ℕ). z * z < 4 * n) (sym (half ∙ ap (λ (z : ℕ). z * 2 ^ e) h)) (sharp r.lower)))
    where
      never : (y : ℕ) → y ≡ 0 → y ≡ 1 → ⊥
      never y p q = omega arith

      sharp : ((x ≡ 0) × (4 * n ≡ (t * 2 ^ e) * (t * 2 ^ e))) ⊎ ((x ≡ 1) × ((t * 2 ^ e) * (t * 2 ^ e) < 4 * n)) → (t * 2 ^ e) * (t * 2 ^ e) < 4 * n
      sharp (inl p) = absurd (never x p.0 o)
      sharp (inr p) = p.1

  tie : (2 * f + 1) * k ≡ t → x ≡ 0 → past n b ≡ eqb (b % 2) 1
  tie h o = past_tie n b (sharp r.lower ∙ ap (λ (z : ℕ). z * z) (sym (half ∙ ap (λ (z : ℕ). z * 2 ^ e) h)))
    where
      never : (y : ℕ) → y ≡ 0 → y ≡ 1 → ⊥
      never y p q = omega arith

      sharp : ((x ≡ 0) × (4 * n ≡ (t * 2 ^ e) * (t * 2 ^ e))) ⊎ ((x ≡ 1) × ((t * 2 ^ e) * (t * 2 ^ e) < 4 * n)) → 4 * n ≡ (t * 2 ^ e) * (t * 2 ^ e)
      sharp (inl p) = p.1
      sharp (inr p) = absurd (never x o p.0)

  pub tie_even : (2 * f + 1) * k ≡ t → x ≡ 0 → f % 2 ≡ 0 → Turns n (E * 8388608 + f)
  unfolding b
  tie_even h o v = turns_here n b lo hi (subst (λ (z : Bool). T (not z)) (sym (tie h o ∙ ne_eqb (b % 2) 1 (even E f v))) tt)
    where
      even : (E f : ℕ) → f % 2 ≡ 0 → (E * 8388608 + f) % 2 ≡ 1 → ⊥
      even E f v w = omega arith

  pub tie_odd : (2 * f + 1) * k ≡ t → x ≡ 0 → f % 2 ≡ 1 → Turns n (suc (E * 8388608 + f))
  unfolding b
  tie_odd h o v = turns_next n b lo hi (subst T (sym (tie h o ∙ eq-eqb (b % 2) 1 (is_odd E f v))) tt)
    where
      is_odd : (E f : ℕ) → f % 2 ≡ 1 → (E * 8388608 + f) % 2 ≡ 1
      is_odd E f v = omega arith

-- ---- the two cases of the code: t has at most 25 binary digits, and its last is the halfway digit; or it has 26, and the last but one is
even_or_odd : (m : ℕ) → (m % 2 ≡ 0) ⊎ (m % 2 ≡ 1)
even_or_odd m = go (m % 2) (omega arith)
  where
    go : (y : ℕ) → y < 2 → (y ≡ 0) ⊎ (y ≡ 1)
    go zero h = inl refl
    go (suc zero) h = inr refl
    go (suc (suc y)) h = absurd (far y h)
      where
        far : (y : ℕ) → suc (suc y) < 2 → ⊥
        far y h = omega arith

is_zero_or_one : (n e t x : ℕ) → Root n e t x → (x ≡ 0) ⊎ (x ≡ 1)
is_zero_or_one n e t x r = elim r.lower [ inl p ↦ inl p.0 | inr p ↦ inr p.0 ]

once : (u : ℕ) → u ≡ 1 * u
once u = omega arith

-- with x at most 1, the halfway digit z and the digit m above it
quarter : (t x : ℕ) → x < 2 → (2 * t + x) / 4 ≡ t / 2
quarter t x h = omega arith

eighth : (t x : ℕ) → x < 2 → (2 * t + x) / 8 ≡ t / 4
eighth t x h = omega arith

stays_4 : (e t x m : ℕ) → 2 * t + x + 1 + m < 4 * (t / 2) + 4 → e * 8388608 + t / 2 ≡ e * 8388608 + (2 * t + x + 1 + m) / 4
stays_4 e t x m h = omega arith

goes_4 : (e t x m : ℕ) → x < 2 → m < 2 → 4 * (t / 2) + 4 ≤ 2 * t + x + 1 + m → suc (e * 8388608 + t / 2) ≡ e * 8388608 + (2 * t + x + 1 + m) / 4
goes_4 e t x m h k l = omega arith

stays_8 : (e t x m : ℕ) → 2 * t + x + 3 + m < 8 * (t / 4) + 8 → suc e * 8388608 + t / 4 ≡ e * 8388608 + 8388608 + (2 * t + x + 3 + m) / 8
stays_8 e t x m h = omega arith

goes_8 : (e t x m : ℕ) → x < 2 → m < 2 → 8 * (t / 4) + 8 ≤ 2 * t + x + 3 + m → suc (suc e * 8388608 + t / 4) ≡ e * 8388608 + 8388608 + (2 * t + x + 3 + m) / 8
goes_8 e t x m h k l = omega arith

pub round_4 : (n e t x : ℕ) → Root n e t x → (e ≡ 0) ⊎ (16777216 ≤ t) → t < 33554432 → Turns n (out_4 e t x)
round_4 n e t x r d small = go (even_or_odd t) (is_zero_or_one n e t x r) (even_or_odd (t / 2))
  where
    led : (e ≡ 0) ⊎ (16777216 ≤ t) → Led e (t / 2)
    led (inl z) = inl z
    led (inr h) = inr (omega arith)

    f_lt : t / 2 < 16777216
    f_lt = omega arith

    from : 2 * (t / 2) * 1 ≤ t
    from = omega arith

    to : t + 1 ≤ 2 * suc (t / 2) * 1
    to = omega arith

    go : (t % 2 ≡ 0) ⊎ (t % 2 ≡ 1) → (x ≡ 0) ⊎ (x ≡ 1) → (t / 2 % 2 ≡ 0) ⊎ (t / 2 % 2 ≡ 1) → Turns n (out_4 e t x)
    go (inl z) (inl o) p =
        subst (λ (y : ℕ). Turns n y) (stays_4 e t x (t / 2 % 2) (omega arith) ∙ ap (λ (y : ℕ). e * 8388608 + (2 * t + x + 1 + y % 2) / 4) (sym (quarter t x (omega arith)))) (down n e t x e (t / 2) 1 r (once (2 ^ e)) (led d) f_lt from to (omega arith))
    go (inl z) (inr o) p =
        subst (λ (y : ℕ). Turns n y) (stays_4 e t x (t / 2 % 2) (omega arith) ∙ ap (λ (y : ℕ). e * 8388608 + (2 * t + x + 1 + y % 2) / 4) (sym (quarter t x (omega arith)))) (down n e t x e (t / 2) 1 r (once (2 ^ e)) (led d) f_lt from to (omega arith))
    go (inr z) (inl o) (inl p) =
        subst (λ (y : ℕ). Turns n y) (stays_4 e t x (t / 2 % 2) (omega arith) ∙ ap (λ (y : ℕ). e * 8388608 + (2 * t + x + 1 + y % 2) / 4) (sym (quarter t x (omega arith)))) (tie_even n e t x e (t / 2) 1 r (once (2 ^ e)) (led d) f_lt from to (omega arith) o p)
    go (inr z) (inl o) (inr p) =
        subst (λ (y : ℕ). Turns n y) (goes_4 e t x (t / 2 % 2) (omega arith) (omega arith) (omega arith) ∙ ap (λ (y : ℕ). e * 8388608 + (2 * t + x + 1 + y % 2) / 4) (sym (quarter t x (omega arith)))) (tie_odd n e t x e (t / 2) 1 r (once (2 ^ e)) (led d) f_lt from to (omega arith) o p)
    go (inr z) (inr o) p =
        subst (λ (y : ℕ). Turns n y) (goes_4 e t x (t / 2 % 2) (omega arith) (omega arith) (omega arith) ∙ ap (λ (y : ℕ). e * 8388608 + (2 * t + x + 1 + y % 2) / 4) (sym (quarter t x (omega arith)))) (inexact n e t x e (t / 2) 1 r (once (2 ^ e)) (led d) f_lt from to (omega arith) o)

halves : (t : ℕ) → t / 2 / 2 ≡ t / 4
halves t = omega arith

parts : (t : ℕ) → 4 * (t / 4) + 2 * (t / 2 % 2) + t % 2 ≡ t
parts t = omega (arith, halves t)

pub round_8 : (n e t x : ℕ) → Root n e t x → 33554432 ≤ t → t < 67108864 → Turns n (out_8 e t x)
round_8 n e t x r large small = go (parts t) (even_or_odd t) (even_or_odd (t / 2)) (is_zero_or_one n e t x r) (even_or_odd (t / 4))
  where
    led : Led (suc e) (t / 4)
    led = inr (omega arith)

    f_lt : t / 4 < 16777216
    f_lt = omega arith

    from : 2 * (t / 4) * 2 ≤ t
    from = omega arith

    to : t + 1 ≤ 2 * suc (t / 4) * 2
    to = omega arith

    go : 4 * (t / 4) + 2 * (t / 2 % 2) + t % 2 ≡ t → (t % 2 ≡ 0) ⊎ (t % 2 ≡ 1) → (t / 2 % 2 ≡ 0) ⊎ (t / 2 % 2 ≡ 1) → (x ≡ 0) ⊎ (x ≡ 1) → (t / 4 % 2 ≡ 0) ⊎ (t / 4 % 2 ≡ 1) → Turns n (out_8 e t x)
    go g z (inl y) (inl o) p =
        subst (λ (v : ℕ). Turns n v) (stays_8 e t x (t / 4 % 2) (omega arith) ∙ ap (λ (y : ℕ). e * 8388608 + 8388608 + (2 * t + x + 3 + y % 2) / 8) (sym (eighth t x (omega arith)))) (down n e t x (suc e) (t / 4) 2 r (pow-succ' 2 e) led f_lt from to (omega arith))
    go g z (inl y) (inr o) p =
        subst (λ (v : ℕ). Turns n v) (stays_8 e t x (t / 4 % 2) (omega arith) ∙ ap (λ (y : ℕ). e * 8388608 + 8388608 + (2 * t + x + 3 + y % 2) / 8) (sym (eighth t x (omega arith)))) (down n e t x (suc e) (t / 4) 2 r (pow-succ' 2 e) led f_lt from to (omega arith))
    go g (inl z) (inr y) (inl o) (inl p) =
        subst (λ (v : ℕ). Turns n v) (stays_8 e t x (t / 4 % 2) (omega arith) ∙ ap (λ (y : ℕ). e * 8388608 + 8388608 + (2 * t + x + 3 + y % 2) / 8) (sym (eighth t x (omega arith)))) (tie_even n e t x (suc e) (t / 4) 2 r (pow-succ' 2 e) led f_lt from to (omega arith) o p)
    go g (inl z) (inr y) (inl o) (inr p) =
        subst (λ (v : ℕ). Turns n v) (goes_8 e t x (t / 4 % 2) (omega arith) (omega arith) (omega arith) ∙ ap (λ (y : ℕ). e * 8388608 + 8388608 + (2 * t + x + 3 + y % 2) / 8) (sym (eighth t x (omega arith)))) (tie_odd n e t x (suc e) (t / 4) 2 r (pow-succ' 2 e) led f_lt from to (omega arith) o p)
    go g (inl z) (inr y) (inr o) p =
        subst (λ (v : ℕ). Turns n v) (goes_8 e t x (t / 4 % 2) (omega arith) (omega arith) (omega arith) ∙ ap (λ (y : ℕ). e * 8388608 + 8388608 + (2 * t + x + 3 + y % 2) / 8) (sym (eighth t x (omega arith)))) (inexact n e t x (suc e) (t / 4) 2 r (pow-succ' 2 e) led f_lt from to (omega arith) o)
    go g (inr z) (inr y) (inl o) p =
        subst (λ (v : ℕ). Turns n v) (goes_8 e t x (t / 4 % 2) (omega arith) (omega arith) (omega arith) ∙ ap (λ (y : ℕ). e * 8388608 + 8388608 + (2 * t + x + 3 + y % 2) / 8) (sym (eighth t x (omega arith)))) (beyond_it n e t x (suc e) (t / 4) 2 r (pow-succ' 2 e) led f_lt from to (omega arith))
    go g (inr z) (inr y) (inr o) p =
        subst (λ (v : ℕ). Turns n v) (goes_8 e t x (t / 4 % 2) (omega arith) (omega arith) (omega arith) ∙ ap (λ (y : ℕ). e * 8388608 + 8388608 + (2 * t + x + 3 + y % 2) / 8) (sym (eighth t x (omega arith)))) (beyond_it n e t x (suc e) (t / 4) 2 r (pow-succ' 2 e) led f_lt from to (omega arith))
