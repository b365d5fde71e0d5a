-- The order of the numbers of a format, where a number is a value that fits and is no NaN: tests of floats as facts about heights and back; `le` is transitive, and of two numbers one is not above the other.
-- Assumes nothing.
use mathlib.Core.Path.{◌≡◌, refl, sym, ap, ◌∙◌, subst}
use mathlib.Core.Bool.{Bool, true, false, not}
use Prim.Native.Nat.{ℕ, ◌+◌, ◌/◌, ◌^◌, ◌≤◌, ◌<◌}
use native.Mathlib.Nat.{zero-mul, zero-div, add-zero}
use native.Mathlib.Omega.{arith}
use borrow.Author.Tests.{lt-ltb, le-ltb, ltb-true, ltb-false, le-leb, leb-true, leb-false}
use lib.Dec.{T}
use lib.Ieee.{Float, nan, inf, fin, Format, low, neg, lt, le, fits, is_nan}
use lib.Ieee.Fits.{neg-fits}
use Rattle.lists.proofs.Bools.{fails}
use Rattle.floats.specs.Values.{pos_zero, Number}
use Rattle.floats.specs.Height.{mid, height}
use Rattle.floats.proofs.Laws.Height.{height_lt, height_le}

module _ (f : Format) where
  pub lt→< : (x y : Float) → Number f x → Number f y → lt x y ≡ true → height f x < height f y
  lt→< x y p q h = ltb-true (height f x) (height f y) (sym (height_lt f x y p.fit q.fit p.no_nan q.no_nan) ∙ h)

  pub nlt→≤ : (x y : Float) → Number f x → Number f y → lt x y ≡ false → height f y ≤ height f x
  nlt→≤ x y p q h = ltb-false (height f x) (height f y) (sym (height_lt f x y p.fit q.fit p.no_nan q.no_nan) ∙ h)

  pub <→lt : (x y : Float) → Number f x → Number f y → height f x < height f y → lt x y ≡ true
  <→lt x y p q h = height_lt f x y p.fit q.fit p.no_nan q.no_nan ∙ lt-ltb (height f x) (height f y) h

  pub ≤→nlt : (x y : Float) → Number f x → Number f y → height f y ≤ height f x → lt x y ≡ false
  ≤→nlt x y p q h = height_lt f x y p.fit q.fit p.no_nan q.no_nan ∙ le-ltb (height f x) (height f y) h

  pub le→≤ : (x y : Float) → Number f x → Number f y → le x y ≡ true → height f x ≤ height f y
  le→≤ x y p q h = leb-true (height f x) (height f y) (sym (height_le f x y p.fit q.fit p.no_nan q.no_nan) ∙ h)

  pub nle→< : (x y : Float) → Number f x → Number f y → le x y ≡ false → height f y < height f x
  nle→< x y p q h = leb-false (height f x) (height f y) (sym (height_le f x y p.fit q.fit p.no_nan q.no_nan) ∙ h)

  pub ≤→le : (x y : Float) → Number f x → Number f y → height f x ≤ height f y → le x y ≡ true
  ≤→le x y p q h = height_le f x y p.fit q.fit p.no_nan q.no_nan ∙ le-leb (height f x) (height f y) h

  pub le_trans_f : (x y z : Float) → Number f x → Number f y → Number f z → le x y ≡ true → le y z ≡ true → le x z ≡ true
  le_trans_f x y z p q r h k = ≤→le x z p r (omega (arith, le→≤ x y p q h, le→≤ y z q r k))

  pub le_total_f : (x y : Float) → Number f x → Number f y → lt y x ≡ not (le x y)
  le_total_f x y p q = go (le x y) refl
    where
      go : (b : Bool) → le x y ≡ b → lt y x ≡ not b
      go true h = ≤→nlt y x q p (le→≤ x y p q h)
      go false h = <→lt y x q p (nle→< x y p q h)

-- ---- the numbers: zero, and what `neg` gives
pub neg_nan : (x : Float) → is_nan (neg x) ≡ is_nan x
unfolding is_nan neg
neg_nan nan = refl
neg_nan (inf s) = refl
neg_nan (fin s m e) = refl

pub pos_zero_number : (f : Format) → Number f pos_zero
unfolding fits is_nan
pos_zero_number f = record { fit = tt; no_nan = tt }

pub neg_number : (f : Format) (x : Float) → Number f x → Number f (neg x)
neg_number f x n = record { fit = neg-fits f x n.fit; no_nan = subst (λ (b : Bool). T (not b)) (sym (neg_nan x)) n.no_nan }

pub pos_zero_height : (f : Format) → height f pos_zero ≡ mid f
unfolding height
pos_zero_height f = ap (λ (z : ℕ). mid f + z) (ap (λ (z : ℕ). z / 1) (zero-mul (2 ^ low f)) ∙ zero-div 1) ∙ add-zero (mid f)

-- what compares is no NaN
pub lt_numbers : (x y : Float) → lt x y ≡ true → (is_nan x ≡ false) × (is_nan y ≡ false)
unfolding lt is_nan
lt_numbers nan y h = absurd (subst T (sym h) tt)
lt_numbers (inf s) nan h = absurd (subst T (sym h) tt)
lt_numbers (inf s) (inf t) h = (refl, refl)
lt_numbers (inf s) (fin t n d) h = (refl, refl)
lt_numbers (fin s m e) nan h = absurd (subst T (sym h) tt)
lt_numbers (fin s m e) (inf t) h = (refl, refl)
lt_numbers (fin s m e) (fin t n d) h = (refl, refl)

pub le_numbers : (x y : Float) → le x y ≡ true → (is_nan x ≡ false) × (is_nan y ≡ false)
unfolding le is_nan
le_numbers nan y h = absurd (subst T (sym h) tt)
le_numbers (inf s) nan h = absurd (subst T (sym h) tt)
le_numbers (inf s) (inf t) h = (refl, refl)
le_numbers (inf s) (fin t n d) h = (refl, refl)
le_numbers (fin s m e) nan h = absurd (subst T (sym h) tt)
le_numbers (fin s m e) (inf t) h = (refl, refl)
le_numbers (fin s m e) (fin t n d) h = (refl, refl)

-- so with the format it is a number
pub no_nan : (x : Float) → is_nan x ≡ false → T (not (is_nan x))
no_nan x e = fails (is_nan x) e

pub number : (f : Format) (x : Float) → T (fits f x) → is_nan x ≡ false → Number f x
number f x p e = record { fit = p; no_nan = no_nan x e }
