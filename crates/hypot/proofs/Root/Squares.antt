-- The squares of two magnitudes a * 2 ^ e and b * 2 ^ g, with e at least g, in units of the larger one's: what is below the unit is cut off, and only said to be there.
use Rattle.std.proofs.Common.{◌≡◌, ℕ, suc, ◌+◌, ◌*◌, ◌/◌, ◌^◌, ◌<◌, ◌≤◌, ◌⊎◌, sym, ap, ◌∙◌, ap₂, inl, inr, le_of_eq, lt_of_lt_of_le, lt_of_le_of_lt, mul-le-mul_right, mul_assoc, mul_comm, add-mul, mul-lt-mul_of_pos_right, mul-pos, mul-add, div-mul-le_self, two-mul, arith, pow_pos, pow-add}
use native.Mathlib.Nat.{mul-mul-mul_comm, lt-div-mul-add}
use Rattle.hypot.specs.Steps.{Flag}
use Rattle.hypot.proofs.Root.Rounds.{Root}

module _ (a b g d : ℕ) where
  abbrev e : ℕ
  e = g + d

  abbrev D : ℕ
  D = 2 ^ (2 * d)

  abbrev G : ℕ
  G = 2 ^ g * 2 ^ g

  abbrev n : ℕ
  n = (a * 2 ^ e) * (a * 2 ^ e) + (b * 2 ^ g) * (b * 2 ^ g)

  abbrev c : ℕ
  c = 4 * b * b

  abbrev h : ℕ
  h = c / D

  abbrev s : ℕ
  s = 4 * a * a + h

  squared : 2 ^ e * 2 ^ e ≡ D * G
  squared =
      ap (λ (z : ℕ). z * z) (pow-add 2 g d)
      ∙ mul-mul-mul_comm (2 ^ g) (2 ^ d) (2 ^ g) (2 ^ d)
      ∙ mul_comm (2 ^ g * 2 ^ g) (2 ^ d * 2 ^ d)
      ∙ ap (λ (z : ℕ). z * (2 ^ g * 2 ^ g)) (sym (ap (λ (z : ℕ). 2 ^ z) (two-mul d) ∙ pow-add 2 d d))

  of_square : (t : ℕ) → (t * 2 ^ e) * (t * 2 ^ e) ≡ t * t * D * G
  of_square t = mul-mul-mul_comm t (2 ^ e) t (2 ^ e) ∙ ap (λ (z : ℕ). t * t * z) squared ∙ sym (mul_assoc (t * t) D G)

  regroup : (a b D G : ℕ) → 4 * (a * a * D * G + b * b * G) ≡ (4 * a * a * D + 4 * b * b) * G
  regroup a b D G = simp (mul-add, add-mul, mul_assoc)

  total : 4 * n ≡ (4 * a * a * D + c) * G
  total = ap (λ (z : ℕ). 4 * z) (ap₂ (λ (x y : ℕ). x + y) (of_square a) (mul-mul-mul_comm b (2 ^ g) b (2 ^ g))) ∙ regroup a b D G

  D-pos : 0 < D
  D-pos = pow_pos (2 * d)

  G-pos : 0 < G
  G-pos = mul-pos (pow_pos g) (pow_pos g)

  cut : h * D ≤ c
  cut = div-mul-le_self c D

  next : c < h * D + D
  next = lt-div-mul-add D-pos

  s_is : s * D ≡ 4 * a * a * D + h * D
  s_is = add-mul (4 * a * a) h D

  over_total : (t : ℕ) → s < (t + 1) * (t + 1) → 4 * a * a * D + c < (t + 1) * (t + 1) * D
  over_total t l = grow ((t + 1) * (t + 1) * D) (suc s * D) (s * D) (4 * a * a * D) (h * D) c D (mul-le-mul_right D l) (native.Mathlib.Nat.suc-mul s D) s_is next
    where
      grow : (x y z p q c D : ℕ) → y ≤ x → y ≡ z + D → z ≡ p + q → c < q + D → p + c < x
      grow x y z p q c D a b d e = omega arith

  pub root_of : (t x : ℕ) → t * t ≤ s → s < (t + 1) * (t + 1) → Flag x (t * t) s (h * D) c → Root n e t x
  root_of t x l u f = record {
    upper = lt_of_le_of_lt (le_of_eq total) (lt_of_lt_of_le (mul-lt-mul_of_pos_right (over_total t u) G-pos) (le_of_eq (sym (of_square (t + 1)))));
    lower = go f;
  }
    where
      strict : (y z : ℕ) → y ≤ z → (y ≡ z → ⊥) → y < z
      strict y z a b = omega arith

      exact : (x y p q c : ℕ) → x ≡ y → y ≡ p + q → q ≡ c → x ≡ p + c
      exact x y p q c a b d = omega arith

      by_root : (x y p q c : ℕ) → x < y → y ≡ p + q → q ≤ c → x < p + c
      by_root x y p q c a b d = omega arith

      by_rest : (x y p q c : ℕ) → x ≤ y → y ≡ p + q → q < c → x < p + c
      by_rest x y p q c a b d = omega arith

      raise : t * t * D < 4 * a * a * D + c → (t * 2 ^ e) * (t * 2 ^ e) < 4 * n
      raise k = lt_of_le_of_lt (le_of_eq (of_square t)) (lt_of_lt_of_le (mul-lt-mul_of_pos_right k G-pos) (le_of_eq (sym total)))

      go : Flag x (t * t) s (h * D) c → ((x ≡ 0) × (4 * n ≡ (t * 2 ^ e) * (t * 2 ^ e))) ⊎ ((x ≡ 1) × ((t * 2 ^ e) * (t * 2 ^ e) < 4 * n))
      go (inl p) =
          inl (p.0, total ∙ ap (λ (z : ℕ). z * G) (sym (exact (t * t * D) (s * D) (4 * a * a * D) (h * D) c (ap (λ (z : ℕ). z * D) p.1) s_is p.2)) ∙ sym (of_square t))
      go (inr (o, inl k)) =
          inr (o, raise (by_root (t * t * D) (s * D) (4 * a * a * D) (h * D) c (mul-lt-mul_of_pos_right (strict (t * t) s l k) D-pos) s_is cut))
      go (inr (o, inr k)) =
          inr (o, raise (by_rest (t * t * D) (s * D) (4 * a * a * D) (h * D) c (mul-le-mul_right D l) s_is (strict (h * D) c cut k)))
