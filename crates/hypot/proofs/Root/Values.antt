-- The values of binary32 by their patterns with the sign's bit off.
use Rattle.std.proofs.Common.{◌≡◌, ℕ, zero, suc, ◌+◌, ◌*◌, ◌/◌, ◌%◌, ◌^◌, ◌<◌, ◌≤◌, min, Bool, true, false, cond, not, T, eqb, ◌⊎◌, ℤ, sym, refl, ap, ◌∙◌, subst, ap₂, inl, inr, eq-or-lt_of_le, mul-div_cancel, arith, ne_eqb}
use lib.Ieee.{Float, nan, inf, fin, binary32, down, odd, of_fields, of_bits, to_bits, fits, nan_bits}
use lib.Ieee.Digits.{Equals, odd_val}
use lib.Ieee.Fits.{down_pos}
use lib.Ieee.Bits.{of_bits-to_bits}
use Rattle.hypot.specs.Hypot.{units_of, seek, square, magnitude, nearest_root, hypot}
use Rattle.floats.proofs.Nan.{number_bits}
use Rattle.hypot.proofs.Root.Units.{units_is}

abbrev pub Shape : Float → ℕ → Type 0
Shape nan b = 0x7f80_0000 < b
Shape (inf s) b = b ≡ 0x7f80_0000
Shape (fin s m e) b = (b < 0x7f80_0000) × (magnitude m e ≡ units_of b)

-- ---- a finite pattern is read as its magnitude
fields_value : (s : Bool) (x t : ℕ) → x < 255 → t < 8388608 → Equals (of_fields binary32 s x t) (units_of (x * 8388608 + t)) (2 ^ 149)
unfolding of_fields
fields_value s zero t h l =
    subst (λ (z : ℕ). Equals (odd 24 s t 0 149) z (2 ^ 149)) (sym (units_is (0 * 8388608 + t) 0 t (omega arith) (omega arith))) (odd_val 24 s t 0 149)
fields_value s (suc x) t h l =
    subst (λ (z : Bool). Equals (cond z (cond (eqb t 0) (inf s) nan) (odd 24 s (8388608 + t) x 149)) (units_of (suc x * 8388608 + t)) (2 ^ 149))
    (sym (ne_eqb (suc x) 255 (omega arith)))
    (subst (λ (z : ℕ). Equals (odd 24 s (8388608 + t) x 149) z (2 ^ 149)) (sym (units_is (suc x * 8388608 + t) x (8388608 + t) (omega arith) (omega arith))) (odd_val 24 s (8388608 + t) x 149))

-- the highest field is no finite value
fields_top : (s : Bool) (t : ℕ) (v : Bool) (m : ℕ) (e : ℤ) → of_fields binary32 s 255 t ≡ fin v m e → ⊥
unfolding of_fields
fields_top s t v m e h = go (eqb t 0) h
  where
    go : (z : Bool) → cond z (inf s) nan ≡ fin v m e → ⊥
    go true k = let z : ◌≡◌ {A = ℕ} 0 1 = cc in omega arith
    go false k = let z : ◌≡◌ {A = ℕ} 0 1 = cc in omega arith

of_bits_is : (b : ℕ) → of_bits binary32 b ≡ of_fields binary32 (lib.Dec.leb 2147483648 b) (b % 2147483648 / 8388608) (b % 8388608)
unfolding of_bits
of_bits_is b = refl

magnitude_is : (s : Bool) (m : ℕ) (e : ℤ) (u : ℕ) → Equals (fin s m e) u (2 ^ 149) → magnitude m e ≡ u
magnitude_is s m e u h = ap (λ (z : ℕ). z / down e) h ∙ mul-div_cancel u (down_pos e)

pub finite_value : (s : Bool) (m : ℕ) (e : ℤ) → T (fits binary32 (fin s m e))
    → (to_bits binary32 (fin s m e) % 2147483648 < 0x7f80_0000) × Equals (fin s m e) (units_of (to_bits binary32 (fin s m e) % 2147483648)) (2 ^ 149)
finite_value s m e h = go (eq-or-lt_of_le (omega arith))
  where
    b : ℕ
    b = to_bits binary32 (fin s m e)

    back : of_fields binary32 (lib.Dec.leb 2147483648 b) (b % 2147483648 / 8388608) (b % 8388608) ≡ fin s m e
    back = sym (of_bits_is b) ∙ of_bits-to_bits binary32 (fin s m e) h

    joined : (b : ℕ) → b % 2147483648 / 8388608 * 8388608 + b % 8388608 ≡ b % 2147483648
    joined b = omega arith

    go : (b % 2147483648 / 8388608 ≡ 255) ⊎ (b % 2147483648 / 8388608 < 255) → (b % 2147483648 < 0x7f80_0000) × Equals (fin s m e) (units_of (b % 2147483648)) (2 ^ 149)
    go (inl k) = absurd (fields_top (lib.Dec.leb 2147483648 b) (b % 8388608) s m e (subst (λ (z : ℕ). of_fields binary32 (lib.Dec.leb 2147483648 b) z (b % 8388608) ≡ fin s m e) k back))
    go (inr k) = (
      omega arith,
      subst (λ (z : ℕ). Equals (fin s m e) (units_of z) (2 ^ 149)) (joined b)
          (subst (λ (z : Float). Equals z (units_of (b % 2147483648 / 8388608 * 8388608 + b % 8388608)) (2 ^ 149)) back
          (fields_value (lib.Dec.leb 2147483648 b) (b % 2147483648 / 8388608) (b % 8388608) k (omega arith))),
    )

pub shape : (x : Float) → T (fits binary32 x) → Shape x (to_bits binary32 x % 2147483648)
shape nan h = unfold to_bits in omega arith
shape (inf true) h = unfold to_bits in refl
shape (inf false) h = unfold to_bits in refl
shape (fin s m e) h =
    let p = finite_value s m e h in
    (p.0, magnitude_is s m e (units_of (to_bits binary32 (fin s m e) % 2147483648)) p.1)

-- ---- the cases of `hypot`
infinite : of_bits binary32 0x7f80_0000 ≡ inf false
unfolding of_bits
infinite = refl

off : (b : ℕ) → b < 0x7f80_0000 → b ≡ 0x7f80_0000 → ⊥
off b h e = omega arith

off_above : (b : ℕ) → 0x7f80_0000 < b → b ≡ 0x7f80_0000 → ⊥
off_above b h e = omega arith

twice : (b : ℕ) → b < 0x7f80_0000 → 0x7f80_0000 < b → ⊥
twice b h e = omega arith

pub left_infinite : (x y : Float) (p : ℕ) → Shape x p → p ≡ 0x7f80_0000 → of_bits binary32 0x7f80_0000 ≡ hypot x y
unfolding hypot
left_infinite nan y p s e = absurd (off_above p s e)
left_infinite (inf t) y p s e = infinite
left_infinite (fin t m d) y p s e = absurd (off p s.0 e)

pub right_infinite : (x y : Float) (q : ℕ) → Shape y q → q ≡ 0x7f80_0000 → of_bits binary32 0x7f80_0000 ≡ hypot x y
unfolding hypot
right_infinite x nan q s e = absurd (off_above q s e)
right_infinite nan (inf t) q s e = infinite
right_infinite (inf u) (inf t) q s e = infinite
right_infinite (fin u m d) (inf t) q s e = infinite
right_infinite x (fin t m d) q s e = absurd (off q s.0 e)

pub left_nan : (x y : Float) (p q : ℕ) → Shape x p → Shape y q → (q ≡ 0x7f80_0000 → ⊥) → 0x7f80_0000 < p → x ≡ hypot x y
unfolding hypot
left_nan nan nan p q s t n h = refl
left_nan nan (inf v) p q s t n h = absurd (n t)
left_nan nan (fin v m d) p q s t n h = refl
left_nan (inf u) y p q s t n h = absurd (off_above p h s)
left_nan (fin u m d) y p q s t n h = absurd (twice p s.0 h)

pub right_nan : (x y : Float) (p q : ℕ) → Shape x p → Shape y q → (p ≡ 0x7f80_0000 → ⊥) → 0x7f80_0000 < q → y ≡ hypot x y
unfolding hypot
right_nan nan nan p q s t n h = refl
right_nan (inf u) nan p q s t n h = absurd (n s)
right_nan (fin u m d) nan p q s t n h = refl
right_nan x (inf v) p q s t n h = absurd (off_above q h t)
right_nan x (fin v m d) p q s t n h = absurd (twice q t.0 h)

pub finite : (x y : Float) (p q : ℕ) → Shape x p → Shape y q → p < 0x7f80_0000 → q < 0x7f80_0000 → of_bits binary32 (nearest_root (square (units_of p) + square (units_of q))) ≡ hypot x y
unfolding hypot
finite nan y p q s t h k = absurd (twice p h s)
finite (inf u) y p q s t h k = absurd (off p h s)
finite (fin u m d) nan p q s t h k = absurd (twice q k t)
finite (fin u m d) (inf v) p q s t h k = absurd (off q k t)
finite (fin u m d) (fin v n e) p q s t h k = ap₂ (λ (a b : ℕ). of_bits binary32 (nearest_root (a * a + b * b))) (sym s.1) (sym t.1)

capped : (b : ℕ) → min b 0x7f80_0000 ≤ 0x7f80_0000
capped b = omega arith

pub root_le : (n : ℕ) → nearest_root n ≤ 0x7f80_0000
unfolding nearest_root
root_le n = capped (seek n 31 0)

pub root_no_nan : (n r : ℕ) → r ≡ nearest_root n → T (not (nan_bits binary32 r))
root_no_nan n r e = number_bits binary32 r (under r (nearest_root n) e (root_le n))
  where
    under : (r b : ℕ) → r ≡ b → b ≤ 0x7f80_0000 → r % 2147483648 ≤ 0x7f80_0000
    under r b e h = omega arith

-- ---- what `units_of` counts: the value that a finite pattern stands for is unitsOf b / 2 ^ 149
pub units_are : (b : ℕ) → b < 0x7f80_0000 → Equals (of_bits binary32 b) (units_of b) (2 ^ 149)
units_are b h =
    subst (λ (v : Float). Equals v (units_of b) (2 ^ 149)) (sym (of_bits_is b))
    (subst (λ (z : ℕ). Equals (of_fields binary32 (lib.Dec.leb 2147483648 b) (b % 2147483648 / 8388608) (b % 8388608)) (units_of z) (2 ^ 149)) (joined b h)
    (fields_value (lib.Dec.leb 2147483648 b) (b % 2147483648 / 8388608) (b % 8388608) (omega arith) (omega arith)))
  where
    joined : (b : ℕ) → b < 0x7f80_0000 → b % 2147483648 / 8388608 * 8388608 + b % 8388608 ≡ b
    joined b h = omega arith
