-- The code's pattern is the nearest one.
use Rattle.std.proofs.Common.{◌≡◌, ℕ, ◌+◌, ◌-◌, ◌*◌, ◌/◌, ◌%◌, ◌^◌, ◌<◌, ◌≤◌, min, Bool, true, false, eqb, sym, refl, ap, ◌∙◌, subst, ap₂, inl, inr, le_trans, le_of_eq, le_refl, le-add_right, add_assoc, mul_assoc, div-lt_iff_lt-mul, add-mul, mul-le-mul, mul-le-mul_left, one-mul, lt_of_not-le, mul-one, mul-add, not-le_of_lt, mul_left_comm, arith, pow_pos, pow_mono, eqb-true}
use native.Mathlib.Decide.{dec_le}
use borrow.Author.Tests.{eqb-false}
use Rattle.hypot.specs.Hypot.{units_of, square, nearest_root}
use Rattle.hypot.specs.Steps.{Flag, Rooted, Packed, out_4, out_8}
use Rattle.hypot.proofs.Root.Units.{Led, led, units_is}
use Rattle.hypot.proofs.Root.Rounds.{Root, nearest_is, round_4, round_8}
use Rattle.hypot.proofs.Root.Squares.{root_of}
use Rattle.hypot.proofs.Root.Small.{four_square, smaller, sum_smaller}

pub flag_lt : (x u s v c : ℕ) → Flag x u s v c → x < 2
flag_lt x u s v c (inl p) = omega arith
flag_lt x u s v c (inr p) = omega arith

two : (x : ℕ) → 2 * (2 * x) ≡ 4 * x
two x = omega arith

four : (a : ℕ) → (2 * a) * (2 * a) ≡ 4 * a * a
four a = mul_assoc 2 a (2 * a) ∙ ap (λ (z : ℕ). 2 * z) (mul_left_comm a 2 a) ∙ two (a * a) ∙ sym (mul_assoc 4 a a)

-- t is at least twice the larger significand
at_least : (a h t : ℕ) → 4 * a * a + h < (t + 1) * (t + 1) → 2 * a ≤ t
at_least a h t l = back (2 * a) t (λ (g : t + 1 ≤ 2 * a). not-le_of_lt l (le_trans (mul-le-mul g g) (le_trans (le_of_eq (four a)) (le-add_right (4 * a * a) h))))
  where
    back : (x t : ℕ) → (t + 1 ≤ x → ⊥) → x ≤ t
    back x t f = omega arith

module _ (p q e g : ℕ) (E : e ≡ p / 8388608 - 1) (G : g ≡ q / 8388608 - 1) (order : q ≤ p) (finite : p < 0x7f80_0000) where
  abbrev a : ℕ
  a = p - e * 8388608

  abbrev b : ℕ
  b = q - g * 8388608

  abbrev d : ℕ
  d = e - g

  abbrev n : ℕ
  n = square (units_of p) + square (units_of q)

  e_is : g + (e - g) ≡ e
  e_is = omega arith

  sum_is : (a * 2 ^ (g + d)) * (a * 2 ^ (g + d)) + (b * 2 ^ g) * (b * 2 ^ g) ≡ n
  sum_is =
      ap₂ (λ (x y : ℕ). x * x + y * y)
      (ap (λ (z : ℕ). a * 2 ^ z) e_is ∙ sym (units_is p e a (sym E) refl))
      (sym (units_is q g b (sym G) refl))

  led_a : Led e a
  led_a = elim (led p) [ inl z ↦ inl (E ∙ z) | inr h ↦ inr (omega arith) ]

  a_lt : a < 16777216
  a_lt = omega arith

  b_lt : b < 16777216
  b_lt = omega arith

  -- the root of the sum of the squares, from the root that the code finds
  root_is : (t x : ℕ) → t * t ≤ 4 * a * a + 4 * b * b / 2 ^ (2 * d) → 4 * a * a + 4 * b * b / 2 ^ (2 * d) < (t + 1) * (t + 1)
      → Flag x (t * t) (4 * a * a + 4 * b * b / 2 ^ (2 * d)) (4 * b * b / 2 ^ (2 * d) * 2 ^ (2 * d)) (4 * b * b) → Root n e t x
  root_is t x l u f =
      subst (λ (z : ℕ). Root n z t x) e_is (subst (λ (z : ℕ). Root z (g + d) t x) sum_is (root_of a b g d t x l u f))

  short : (t x : ℕ) → Root n e t x → x < 2 → 2 * a ≤ t → t < 33554432 → nearest_root n ≡ min (out_4 e t x) 0x7f80_0000
  short t x r o big h =
      nearest_is n (out_4 e t x) (round_4 n e t x r (elim led_a [ inl z ↦ inl z | inr k ↦ inr (omega arith) ]) h) (below e t x (omega arith) h o)
    where
      below : (e t x : ℕ) → e < 254 → t < 33554432 → x < 2 → e * 8388608 + (2 * t + x + 1 + (2 * t + x) / 4 % 2) / 4 < 2147483648
      below e t x p q r = omega arith

  long : (t x : ℕ) → Root n e t x → x < 2 → 33554432 ≤ t → t < 50000000 → nearest_root n ≡ min (out_8 e t x) 0x7f80_0000
  long t x r o h k = nearest_is n (out_8 e t x) (round_8 n e t x r h (wide t k)) (below e t x (omega arith) k o)
    where
      wide : (t : ℕ) → t < 50000000 → t < 67108864
      wide t k = omega arith

      below : (e t x : ℕ) → e < 254 → t < 50000000 → x < 2 → e * 8388608 + 8388608 + (2 * t + x + 3 + (2 * t + x) / 8 % 2) / 8 < 2147483648
      below e t x p q r = omega arith

  pub near : (t x r : ℕ) → Rooted a b (2 * d) t x → Packed e t x r → r ≡ nearest_root n
  near t x r f k = go (dec_le 33554432 t)
    where
      root : Root n e t x
      root = root_is t x f.lower f.upper f.flag

      o : x < 2
      o = flag_lt x (t * t) (4 * a * a + 4 * b * b / 2 ^ (2 * d)) (4 * b * b / 2 ^ (2 * d) * 2 ^ (2 * d)) (4 * b * b) f.flag

      go : Dec (33554432 ≤ t) → r ≡ nearest_root n
      go (yes h) = k.long h ∙ sym (long t x root o h (smaller t (4 * a * a + 4 * b * b / 2 ^ (2 * d)) f.lower (sum_smaller a b (2 * d) a_lt b_lt)))
      go (no h) =
          let h : t < 33554432 = lt_of_not-le h in
          k.short h ∙ sym (short t x root o (at_least a (4 * b * b / 2 ^ (2 * d)) t f.upper) h)

  -- where the exponents differ by more than 12, b is too small to matter
  -- the flag that the code would find
  some_flag : (u s v c : ℕ) → (x : ℕ) × Flag x u s v c
  some_flag u s v c = go (eqb u s) (eqb v c) refl refl
    where
      go : (i j : Bool) → eqb u s ≡ i → eqb v c ≡ j → (x : ℕ) × Flag x u s v c
      go true true y z = (0, inl (refl, eqb-true u s y, eqb-true v c z))
      go true false y z = (1, inr (refl, inr (eqb-false v c z)))
      go false j y z = (1, inr (refl, inl (eqb-false u s y)))

  pub far : 12 < e - g → p ≡ nearest_root n
  far h =
      let x = fl.0 in
      let o : x < 2 = flag_lt x (2 * a * (2 * a)) s (hh * D) (4 * b * b) fl.1 in
      sym (short (2 * a) x (root_is (2 * a) x low high fl.1) o (le_refl (2 * a)) (omega (arith, a_lt)) ∙ same x o)
    where
      D : ℕ
      D = 2 ^ (2 * d)

      hh : ℕ
      hh = 4 * b * b / D

      s : ℕ
      s = 4 * a * a + hh

      fl : (x : ℕ) × Flag x (2 * a * (2 * a)) s (hh * D) (4 * b * b)
      fl = some_flag (2 * a * (2 * a)) s (hh * D) (4 * b * b)

      low : 2 * a * (2 * a) ≤ s
      low = le_trans (le_of_eq (four a)) (le-add_right (4 * a * a) hh)

      a_big : 8388608 ≤ a
      a_big = elim led_a [ inl z ↦ absurd (no_gap e g z h) | inr k ↦ k ]
        where
          no_gap : (e g : ℕ) → e ≡ 0 → 12 < e - g → ⊥
          no_gap e g z h = omega arith

      -- 2 ^ 26 is at most D, so h is at most 2 ^ 24
      hh_small : hh < 33554432
      hh_small =
          (div-lt_iff_lt-mul {k = D} {x = 4 * b * b} {y = 33554432} (pow_pos (2 * d))).1
          (roomy (4 * b * b) (33554432 * D) (33554432 * 67108864) (four_square b b_lt) refl (mul-le-mul_left 33554432 (pow_mono {i = 26} {j = 2 * d} (omega arith))))
        where
          roomy : (x y z : ℕ) → x ≤ 1125899906842624 → z ≡ 2251799813685248 → z ≤ y → x < y
          roomy x y z p q r = omega arith

      expand : (a : ℕ) → (2 * a + 1) * (2 * a + 1) ≡ 4 * a * a + (4 * a + 1)
      expand a = split (2 * a) ∙ ap (λ (z : ℕ). z + 2 * a + 2 * a + 1) (four a) ∙ gather (4 * a * a) a
        where
          split : (y : ℕ) → (y + 1) * (y + 1) ≡ y * y + y + y + 1
          split y = add-mul y 1 (y + 1) ∙ ap₂ (λ (u v : ℕ). u + v) (mul-add y y 1 ∙ ap (λ (z : ℕ). y * y + z) (mul-one y)) (one-mul (y + 1)) ∙ sym (add_assoc (y * y + y) y 1)

          gather : (w a : ℕ) → w + 2 * a + 2 * a + 1 ≡ w + (4 * a + 1)
          gather w a = omega arith

      high : s < (2 * a + 1) * (2 * a + 1)
      high = subst (λ (z : ℕ). s < z) (sym (expand a)) (add_lt (4 * a * a) hh (4 * a + 1) (omega (arith, hh_small, a_big)))
        where
          add_lt : (x y z : ℕ) → y < z → x + y < x + z
          add_lt x y z k = omega arith

      same : (x : ℕ) → x < 2 → min (out_4 e (2 * a) x) 0x7f80_0000 ≡ p
      same x o = ap (λ (z : ℕ). min z 0x7f80_0000) (back e a p x (omega arith) o) ∙ kept p finite
        where
          back : (e a p x : ℕ) → e * 8388608 + a ≡ p → x < 2 → e * 8388608 + (2 * (2 * a) + x + 1 + (2 * (2 * a) + x) / 4 % 2) / 4 ≡ p
          back e a p x h o = omega arith

          kept : (p : ℕ) → p < 0x7f80_0000 → min p 0x7f80_0000 ≡ p
          kept p h = omega arith
