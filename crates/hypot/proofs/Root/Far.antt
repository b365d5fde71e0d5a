-- Where one magnitude is far below the other, or zero, the larger is the nearest.
use Rattle.std.proofs.Common.{◌≡◌, ℕ, suc, ◌+◌, ◌-◌, ◌*◌, ◌/◌, ◌<◌, ◌≤◌, min, max, not, T, sym, refl, ap, ◌∙◌, ap₂, inl, inr, le_of_eq, lt_of_lt_of_le, lt_of_le_of_lt, add-zero, add_comm, eq-or-lt_of_le, lt_of_not-le, arith}
use native.Mathlib.Decide.{dec_le}
use lib.Ieee.{Float, nan, inf, fin, binary32, of_bits, is_nan}
use Rattle.hypot.specs.Hypot.{units_of, halfway, square, nearest_root, hypot}
use Rattle.hypot.proofs.Root.Units.{units_lt}
use Rattle.hypot.proofs.Root.Seek.{sq_lt, sq_twice}
use Rattle.hypot.proofs.Root.Nearest.{nearest_unique}
use Rattle.hypot.proofs.Root.Values.{Shape, finite, left_infinite, right_infinite}
use Rattle.hypot.proofs.Root.Whole.{far}

-- the sum of two squares is the same in either order
pub either_order : (p q hi lo : ℕ) → hi ≡ max p q → lo ≡ min p q → square (units_of hi) + square (units_of lo) ≡ square (units_of p) + square (units_of q)
either_order p q hi lo h l = go (dec_le q p)
  where
    up : (p q hi : ℕ) → hi ≡ max p q → q ≤ p → hi ≡ p
    up p q hi h k = omega arith

    dn : (p q lo : ℕ) → lo ≡ min p q → q ≤ p → lo ≡ q
    dn p q lo h k = omega arith

    up' : (p q hi : ℕ) → hi ≡ max p q → p < q → hi ≡ q
    up' p q hi h k = omega arith

    dn' : (p q lo : ℕ) → lo ≡ min p q → p < q → lo ≡ p
    dn' p q lo h k = omega arith

    go : Dec (q ≤ p) → square (units_of hi) + square (units_of lo) ≡ square (units_of p) + square (units_of q)
    go (yes k) = ap₂ (λ (a b : ℕ). square (units_of a) + square (units_of b)) (up p q hi h k) (dn p q lo l k)
    go (no k) = ap₂ (λ (a b : ℕ). square (units_of a) + square (units_of b)) (up' p q hi h (lt_of_not-le k)) (dn' p q lo l (lt_of_not-le k)) ∙ add_comm (square (units_of q)) (square (units_of p))

-- ---- the pattern of a number is at most the infinity's
pub number_pattern : (x : Float) (p : ℕ) → Shape x p → T (not (is_nan x)) → p ≤ 0x7f80_0000
unfolding is_nan
number_pattern nan p s n = absurd n
number_pattern (inf t) p s n = le_of_eq s
number_pattern (fin t m e) p s n = weak p s.0
  where
    weak : (p : ℕ) → p < 0x7f80_0000 → p ≤ 0x7f80_0000
    weak p h = omega arith

-- ---- the exponents differ by 14 or more
wide : (p q : ℕ) → 0x0700_0000 ≤ p - q → 12 < p / 8388608 - 1 - (q / 8388608 - 1)
wide p q h = omega arith

largest : (x y : Float) (p q : ℕ) → Shape x p → Shape y q → p ≤ 0x7f80_0000 → q ≤ p → 0x0700_0000 ≤ p - q → of_bits binary32 p ≡ hypot x y
largest x y p q s t h o g =
    elim (eq-or-lt_of_le h) [
      | inl e ↦ ap (of_bits binary32) e ∙ left_infinite x y p s e
      | inr l ↦ ap (of_bits binary32) (far p q (p / 8388608 - 1) (q / 8388608 - 1) refl refl o l (wide p q g)) ∙ finite x y p q s t l (lt_of_le_of_lt o l)
    ]

largest' : (x y : Float) (p q : ℕ) → Shape x p → Shape y q → q ≤ 0x7f80_0000 → p ≤ q → 0x0700_0000 ≤ q - p → of_bits binary32 q ≡ hypot x y
largest' x y p q s t h o g =
    elim (eq-or-lt_of_le h) [
      | inl e ↦ ap (of_bits binary32) e ∙ right_infinite x y q t e
      | inr l ↦
          ap (of_bits binary32) (far q p (q / 8388608 - 1) (p / 8388608 - 1) refl refl o l (wide q p g) ∙ ap nearest_root (add_comm (square (units_of q)) (square (units_of p))))
          ∙ finite x y p q s t (lt_of_le_of_lt o l) l
    ]

pub far_apart : (x y : Float) (p q hi : ℕ) → Shape x p → Shape y q → p ≤ 0x7f80_0000 → q ≤ 0x7f80_0000 → hi ≡ max p q → 0x0700_0000 ≤ max p q - min p q → of_bits binary32 hi ≡ hypot x y
far_apart x y p q hi s t h k a g = go (dec_le q p)
  where
    left : (p q hi : ℕ) → hi ≡ max p q → 0x0700_0000 ≤ max p q - min p q → q ≤ p → (hi ≡ p) × (0x0700_0000 ≤ p - q)
    left p q hi a g o = (omega arith, omega arith)

    right : (p q hi : ℕ) → hi ≡ max p q → 0x0700_0000 ≤ max p q - min p q → p < q → (hi ≡ q) × (0x0700_0000 ≤ q - p) × (p ≤ q)
    right p q hi a g o = (omega arith, omega arith, omega arith)

    go : Dec (q ≤ p) → of_bits binary32 hi ≡ hypot x y
    go (yes o) =
        let z = left p q hi a g o in
        ap (of_bits binary32) z.0 ∙ largest x y p q s t h o z.1
    go (no o) =
        let z = right p q hi a g (lt_of_not-le o) in
        ap (of_bits binary32) z.0 ∙ largest' x y p q s t k z.2 z.1

-- ---- one magnitude is zero, or both are
twice : (u : ℕ) → 4 * (u * u + 0) ≡ (2 * u) * (2 * u)
twice u = ap (λ (z : ℕ). 4 * z) (add-zero (u * u)) ∙ sym (sq_twice u)

pub alone : (p : ℕ) → p < 0x7f80_0000 → p ≡ nearest_root (square (units_of p) + square (units_of 0))
unfolding units_of
alone p h = nearest_unique (units_of p * units_of p + 0) p (record {
  range = weak p h;
  lower = λ c e. inl (lt_of_lt_of_le (sq_lt (halfway c) (2 * units_of p) (under c e)) (le_of_eq (sym (twice (units_of p)))));
  upper = λ _. inl (lt_of_le_of_lt (le_of_eq (twice (units_of p))) (sq_lt (2 * units_of p) (halfway p) over));
})
  where
    weak : (p : ℕ) → p < 0x7f80_0000 → p ≤ 0x7f80_0000
    weak p h = omega arith

    sum_lt : (x y z : ℕ) → x < y → y ≡ z → x + y < 2 * z
    sum_lt x y z l e = omega arith

    sum_gt : (x y : ℕ) → x < y → 2 * x < x + y
    sum_gt x y l = omega arith

    under : (c : ℕ) → p ≡ suc c → halfway c < 2 * units_of p
    under c e = unfold halfway in sum_lt (units_of c) (units_of (suc c)) (units_of p) (units_lt c (suc c) (native.Mathlib.Nat.le_refl (suc c))) (ap units_of (sym e))

    over : 2 * units_of p < halfway p
    over = unfold halfway in sum_gt (units_of p) (units_of (suc p)) (units_lt p (suc p) (native.Mathlib.Nat.le_refl (suc p)))

pub both_zero : (p q : ℕ) → p + q ≡ 0 → 0 ≡ nearest_root (square (units_of p) + square (units_of q))
both_zero p q e = alone 0 (lib.Dec.lit< tt) ∙ ap₂ (λ (a b : ℕ). nearest_root (square (units_of a) + square (units_of b))) (left p q e) (right p q e)
  where
    left : (p q : ℕ) → p + q ≡ 0 → 0 ≡ p
    left p q e = omega arith

    right : (p q : ℕ) → p + q ≡ 0 → 0 ≡ q
    right p q e = omega arith
