-- Values that are equal but for the sign of a zero: every comparison takes them for equal. Assumes nothing.
use mathlib.Core.Path.{◌≡◌, refl, sym, ap, ap₂, ◌∙◌}
use mathlib.Core.Logic.{inl, inr}
use mathlib.Core.Bool.{Bool, true, false, not, ◌&&◌, ◌||◌, beq}
use Prim.Native.Nat.{ℕ, ◌+◌, ◌*◌}
use native.Mathlib.Nat.{zero-mul}
use native.Mathlib.Omega.{arith}
use borrow.Author.Tests.{le-ltb, eq-eqb, eqb-true}
use lib.IntN.{pos}
use lib.Dec.{ltb, eqb}
use lib.Ieee.{Float, nan, inf, fin, binary32, up, down, neg, lt, eq, le, below, level, of_bits}
use Rattle.floats.specs.Arithmetic.{zero32}
use Rattle.floats.specs.Leaves.{negative, with_sign, abs}
use Rattle.floats.specs.Values.{pos_zero, Alike, Number}
use Rattle.floats.proofs.Laws.Height.{height_eq, height_same}
use Rattle.floats.proofs.Laws.Order.{pos_zero_number}
use Rattle.floats.proofs.Laws.Signs.{alike_neg, lt_neg, eq_neg}
use Rattle.floats.proofs.Laws.MinMax.{resign}

-- a zero is +0 or -0
pub zero_is : (x : Float) → abs x ≡ pos_zero → x ≡ fin (negative x) 0 (pos 0)
unfolding with_sign
zero_is x h = sym (resign x) ∙ ap (with_sign (negative x)) h

-- ---- comparisons
nothing : (d : ℕ) → 0 * 1 * d ≡ 0
nothing d = zero-mul d

below_zero : (s t : Bool) (d b : ℕ) → below s (0 * 1 * d) t b ≡ below false (0 * 1 * d) t b
below_zero false t d b = refl
below_zero true true d b = le-ltb b (0 * 1 * d) (omega (arith, nothing d))
below_zero true false d b = ap₂ ltb (sym (nothing d)) (ap (λ (z : ℕ). z + b) (nothing d) ∙ omega arith)

level_zero : (s t : Bool) (d b : ℕ) → level s (0 * 1 * d) t b ≡ level false (0 * 1 * d) t b
level_zero s t d b = ap (λ (z : Bool). eqb (0 * 1 * d) b && z) (yes (beq s t) (eq-eqb (0 * 1 * d) 0 (nothing d)) ∙ sym (yes (beq false t) (eq-eqb (0 * 1 * d) 0 (nothing d))))
  where
    yes : (u : Bool) {v : Bool} → v ≡ true → u || v ≡ true
    yes true e = refl
    yes false e = e

zero_lt : (s : Bool) (y : Float) → lt (fin s 0 (pos 0)) y ≡ lt pos_zero y
unfolding lt
zero_lt s nan = refl
zero_lt s (inf t) = refl
zero_lt s (fin t n d) = below_zero s t (down d) (n * up d * 1)

zero_eq : (s : Bool) (y : Float) → eq (fin s 0 (pos 0)) y ≡ eq pos_zero y
unfolding eq
zero_eq s nan = refl
zero_eq s (inf t) = refl
zero_eq s (fin t n d) = level_zero s t (down d) (n * up d * 1)

pub alike_lt_left : (x x' y : Float) → Alike x x' → lt x y ≡ lt x' y
alike_lt_left x x' y (inl e) = ap (λ (v : Float). lt v y) e
alike_lt_left x x' y (inr h) = ap (λ (v : Float). lt v y) (zero_is x h.0) ∙ zero_lt (negative x) y ∙ sym (ap (λ (v : Float). lt v y) (zero_is x' h.1) ∙ zero_lt (negative x') y)

pub alike_lt_right : (x y y' : Float) → Alike y y' → lt x y ≡ lt x y'
alike_lt_right x y y' h = sym (lt_neg x y) ∙ alike_lt_left (neg y) (neg y') (neg x) (alike_neg y y' h) ∙ lt_neg x y'

alike_eq_left : (x x' y : Float) → Alike x x' → eq x y ≡ eq x' y
alike_eq_left x x' y (inl e) = ap (λ (v : Float). eq v y) e
alike_eq_left x x' y (inr h) = ap (λ (v : Float). eq v y) (zero_is x h.0) ∙ zero_eq (negative x) y ∙ sym (ap (λ (v : Float). eq v y) (zero_is x' h.1) ∙ zero_eq (negative x') y)

pub alike_eq : (x x' y y' : Float) → Alike x x' → Alike y y' → eq x y ≡ eq x' y'
alike_eq x x' y y' h k = alike_eq_left x x' y h ∙ sym (eq_neg x' y) ∙ alike_eq_left (neg y) (neg y') (neg x') (alike_neg y y' k) ∙ eq_neg x' y'

pub alike_lt : (x x' y y' : Float) → Alike x x' → Alike y y' → lt x y ≡ lt x' y'
alike_lt x x' y y' h k = alike_lt_left x x' y h ∙ alike_lt_right x' y y' k

pub alike_le : (x x' y y' : Float) → Alike x x' → Alike y y' → le x y ≡ le x' y'
unfolding le
alike_le x x' y y' h k = ap₂ (λ (a b : Bool). a || b) (alike_lt x x' y y' h k) (alike_eq x x' y y' h k)

-- ---- whether a value is a zero
pub zero_plain : zero32 ≡ pos_zero
unfolding of_bits
zero_plain = refl

pub zero_told : (x : Float) → abs x ≡ pos_zero → eq x zero32 ≡ true
zero_told x h = alike_eq x pos_zero zero32 pos_zero (inr (h, plain)) (inl zero_plain) ∙ same
  where
    plain : abs pos_zero ≡ pos_zero
    plain = unfold with_sign in refl

    same : eq pos_zero pos_zero ≡ true
    same = unfold eq in refl

-- the sign makes no difference
pub zero_neg : (x : Float) → eq (neg x) zero32 ≡ eq x zero32
zero_neg x = ap (eq (neg x)) zero_plain ∙ plain x ∙ ap (eq x) (sym zero_plain)
  where
    level_either : (u v : Bool) (a b : ℕ) → b ≡ 0 → eqb a b && (u || eqb a 0) ≡ eqb a b && (v || eqb a 0)
    level_either u v a b e = ap (λ (z : ℕ). eqb a z && (u || eqb a 0)) e ∙ go u v (eqb a 0) ∙ sym (ap (λ (z : ℕ). eqb a z && (v || eqb a 0)) e)
      where
        go : (p q r : Bool) → r && (p || r) ≡ r && (q || r)
        go p q false = refl
        go true true true = refl
        go true false true = refl
        go false true true = refl
        go false false true = refl

    plain : (x : Float) → eq (neg x) pos_zero ≡ eq x pos_zero
    plain nan = unfold eq neg in refl
    plain (inf s) = unfold eq neg in refl
    plain (fin s m e) = unfold eq neg in level_either (beq (not s) false) (beq s false) (m * up e * 1) (0 * 1 * down e) (nothing (down e))

-- a value that equals zero is one
pub zero_alike : (x : Float) → Number binary32 x → eq x zero32 ≡ true → Alike x pos_zero
zero_alike x n z =
    let o = pos_zero_number binary32 in
    height_same binary32 x pos_zero n.fit o.fit (eqb-true _ _ (sym (height_eq binary32 x pos_zero n.fit o.fit n.no_nan o.no_nan) ∙ ap (eq x) (sym zero_plain) ∙ z))
