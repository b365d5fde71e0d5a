-- The magnitudes of the patterns of a format whose exponent's field counts u, in units of its smallest value: e fields and a significand r stand for r * 2 ^ e,
-- and a larger pattern is a larger magnitude. `Units` has it at binary32, where u is 2 ^ 23, and `Units64` at binary64, where it is 2 ^ 52. Assumes nothing.
use Rattle.std.proofs.Common.{◌≡◌, ℕ, zero, suc, ◌+◌, ◌-◌, ◌*◌, ◌/◌, ◌^◌, ◌<◌, ◌≤◌, leb, ◌⊎◌, sym, refl, ap, ◌∙◌, subst, inl, inr, le_of_eq, le_refl, le_of_suc-le-suc, not-suc-le-zero, mul_assoc, eq-or-lt_of_le, mul-lt-mul_of_pos_right, div-mul-le_self, arith, pow_pos, leb-false, leb-true}
use native.Mathlib.Nat.{pow-succ', lt-div-mul-add, div-eq_of_lt, div-eq_of_lt-le}
use Rattle.lists.proofs.Bools.{by_test}

-- a pattern's fields, its significand and its magnitude
abbrev pub fields : ℕ → ℕ → ℕ
fields u b = b / u - 1

abbrev pub significand : ℕ → ℕ → ℕ
significand u b = b - fields u b * u

unfoldable pub units_at : ℕ → ℕ → ℕ
units_at u b = significand u b * 2 ^ fields u b

-- the significand has its leading digit, unless e is 0
abbrev pub Led : ℕ → ℕ → ℕ → Type 0
Led u e r = (e ≡ 0) ⊎ (u ≤ r)

-- b has e fields: it lies below u, and e is 0, or it has the leading digit
abbrev Fields : ℕ → ℕ → ℕ → Type 0
Fields u b e = ((e ≡ 0) × (b < u)) ⊎ ((e * u + u ≤ b) × (b < e * u + 2 * u))

module _ (u : ℕ) (U : 0 < u) where
  has_fields : (b : ℕ) → Fields u b (fields u b)
  has_fields b = go (b / u) (div-mul-le_self b u) (lt-div-mul-add U)
    where
      less : (q : ℕ) → q ≡ suc q - 1
      less q = omega arith

      go : (q : ℕ) → q * u ≤ b → b < q * u + u → Fields u b (q - 1)
      go zero l h = inl (refl, omega arith)
      go (suc q) l h = subst (λ (e : ℕ). Fields u b e) (less q) (inr (omega arith, omega arith))

  only_fields : (b e : ℕ) → Fields u b e → fields u b ≡ e
  only_fields b e (inl h) = ap (λ (q : ℕ). q - 1) (div-eq_of_lt h.1) ∙ sym h.0
  only_fields b e (inr h) = ap (λ (q : ℕ). q - 1) (div-eq_of_lt-le {k = e + 1} u (low h.0) (high h.1)) ∙ back e
    where
      low : e * u + u ≤ b → (e + 1) * u ≤ b
      low l = omega arith

      high : b < e * u + 2 * u → b < (e + 1 + 1) * u
      high l = omega arith

      back : (e : ℕ) → e + 1 - 1 ≡ e
      back e = omega arith

  pub units_is : (b e r : ℕ) → fields u b ≡ e → b - e * u ≡ r → units_at u b ≡ r * 2 ^ e
  unfolding units_at
  units_is b e r f g = ap (λ (x : ℕ). (b - x * u) * 2 ^ x) f ∙ ap (λ (x : ℕ). x * 2 ^ e) g

  pub units_at_holds : (e r : ℕ) → Led u e r → r ≤ 2 * u → units_at u (e * u + r) ≡ r * 2 ^ e
  units_at_holds e r d h = go (eq-or-lt_of_le h)
    where
      short : (x : ℕ) → x + r - x ≡ r
      short x = omega arith

      led : r < 2 * u → Led u e r → u ≤ r → Fields u (e * u + r) e
      led k d l = inr (omega arith, omega arith)

      bare : Led u e r → r < u → Fields u (e * u + r) e
      bare (inl z) l = inl (z, omega (arith, ap (λ (x : ℕ). x * u) z))
      bare (inr g) l = absurd (omega arith)

      go : (r ≡ 2 * u) ⊎ (r < 2 * u) → units_at u (e * u + r) ≡ r * 2 ^ e
      go (inl k) =
          units_is (e * u + r) (suc e) u (only_fields (e * u + r) (suc e) (inr (omega arith, omega arith))) (omega arith)
          ∙ ap (λ (x : ℕ). u * x) (pow-succ' 2 e)
          ∙ sym (mul_assoc u 2 (2 ^ e))
          ∙ ap (λ (x : ℕ). x * 2 ^ e) (omega arith)
      go (inr k) =
          units_is (e * u + r) e r (only_fields (e * u + r) e (by_test (leb u r) (λ t. led k d (leb-true u r t)) (λ t. bare d (leb-false u r t)))) (short (e * u))

  -- a pattern from its fields and its significand
  pub whole : (b : ℕ) → fields u b * u + significand u b ≡ b
  whole b = go (fields u b) (has_fields b)
    where
      go : (e : ℕ) → Fields u b e → e * u + (b - e * u) ≡ b
      go e (inl h) = omega (arith, ap (λ (x : ℕ). x * u) h.0)
      go e (inr h) = omega (arith, h.0)

  pub significand_lt : (b : ℕ) → significand u b < 2 * u
  significand_lt b = go (fields u b) (has_fields b)
    where
      go : (e : ℕ) → Fields u b e → b - e * u < 2 * u
      go e (inl h) = omega (arith, h.1)
      go e (inr h) = omega (arith, h.0, h.1)

  pub led : (b : ℕ) → Led u (fields u b) (significand u b)
  led b = go (fields u b) (has_fields b)
    where
      go : (e : ℕ) → Fields u b e → Led u e (b - e * u)
      go e (inl h) = inl h.0
      go e (inr h) = inr (omega (arith, h.0))

  led_suc : (e r : ℕ) → Led u e r → Led u e (suc r)
  led_suc e r (inl z) = inl z
  led_suc e r (inr h) = inr (omega arith)

  pub units_next : (e r : ℕ) → Led u e r → r < 2 * u → units_at u (suc (e * u + r)) ≡ suc r * 2 ^ e
  units_next e r d h = ap (units_at u) (shift (e * u)) ∙ units_at_holds e (suc r) (led_suc e r d) h
    where
      shift : (x : ℕ) → suc (x + r) ≡ x + suc r
      shift x = omega arith

  -- the next pattern is a larger magnitude, and so is every later one
  step : (b : ℕ) → units_at u b < units_at u (suc b)
  step b =
      subst (λ (x : ℕ). units_at u x < units_at u (suc x)) (whole b)
      (subst (λ (x : ℕ). x < units_at u (suc (e * u + r))) (sym (units_at_holds e r (led b) (weak r (2 * u) (significand_lt b))))
      (subst (λ (x : ℕ). r * 2 ^ e < x) (sym (units_next e r (led b) (significand_lt b))) (mul-lt-mul_of_pos_right (le_refl (suc r)) (pow_pos e))))
    where
      e : ℕ
      e = fields u b

      r : ℕ
      r = significand u b

      weak : (x y : ℕ) → x < y → x ≤ y
      weak x y p = omega arith

  pub units_lt : (b c : ℕ) → b < c → units_at u b < units_at u c
  units_lt b zero h = absurd (not-suc-le-zero h)
  units_lt b (suc c) h = go (eq-or-lt_of_le (le_of_suc-le-suc h)) (units_lt b c)
    where
      up : (x y z : ℕ) → x < y → y < z → x < z
      up x y z p q = omega arith

      go : (b ≡ c) ⊎ (b < c) → (b < c → units_at u b < units_at u c) → units_at u b < units_at u (suc c)
      go (inl e) ih = subst (λ (x : ℕ). units_at u x < units_at u (suc c)) (sym e) (step c)
      go (inr l) ih = up (units_at u b) (units_at u c) (units_at u (suc c)) (ih l) (step c)

  pub units_le : (b c : ℕ) → b ≤ c → units_at u b ≤ units_at u c
  units_le b c h = go (eq-or-lt_of_le h)
    where
      weak : (x y : ℕ) → x < y → x ≤ y
      weak x y p = omega arith

      go : (b ≡ c) ⊎ (b < c) → units_at u b ≤ units_at u c
      go (inl e) = le_of_eq (ap (units_at u) e)
      go (inr l) = weak (units_at u b) (units_at u c) (units_lt b c l)
