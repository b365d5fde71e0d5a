-- The numbers of a place: the pattern that is written, and the value that is read from it. Assumes nothing.
use mathlib.Core.Path.{◌≡◌, refl, sym, ap, subst, ◌∙◌}
use mathlib.Core.Bool.{Bool, true, false, not, cond, true≢false}
use Prim.Native.Nat.{ℕ, ◌/◌, ◌%◌, ◌≤◌, ◌<◌}
use native.Mathlib.Omega.{arith}
use borrow.Author.Tests.{ne_eqb}
use lib.Dec.{T, eqb, leb}
use lib.Ieee.{Float, inf, nan, binary32, eq, of_bits, of_fields, to_bits, top}
use lib.Ieee.Bits.{of_bits-to_bits, to_bits-lt}
use lib.Ieee.Scale
use Rattle.lists.proofs.Bools.{both}
use Rattle.floats.specs.Arithmetic.{zero32}
use Rattle.floats.specs.Values.{Finite}
use Rattle.sheet.specs.Rows.{placed_value}
use Rattle.items.specs.Items.{is_placed, float_of}
use Rattle.places_hold.specs.Claims.{unsigned_zero}

-- a value, by whether it is a zero
value_of : (x : Float) (b : Bool) → eq x zero32 ≡ b → placed_value x ≡ cond b 0 (to_bits binary32 x)
unfolding placed_value
value_of x b e = ap (λ (z : Bool). cond z 0 (to_bits binary32 x)) e

plus_zero : eq zero32 zero32 ≡ true
unfolding of_bits eq
plus_zero = refl

minus_zero : eq (of_bits binary32 2147483648) zero32 ≡ true
unfolding of_bits eq
minus_zero = refl

-- the sign of a zero is not written
pub value_same : (x : Float) → placed_value (unsigned_zero x) ≡ placed_value x
value_same x = go (eq x zero32) refl
  where
    go : (b : Bool) → eq x zero32 ≡ b → placed_value (cond b zero32 x) ≡ placed_value x
    go true e = value_of zero32 true plus_zero ∙ sym (value_of x true e)
    go false e = refl

-- ---- patterns
-- a field of 255 is an infinity's or a NaN's
not_finite : (s : Bool) (t : ℕ) → T (lib.Ieee.Scale.finite (of_fields binary32 s 255 t)) → ⊥
unfolding of_fields
not_finite s t h = go (eqb t 0) h
  where
    go : (b : Bool) → T (lib.Ieee.Scale.finite (cond b (inf s) nan)) → ⊥
    go true h = h
    go false h = h

below_255 : (v : ℕ) → T (lib.Ieee.Scale.finite (of_bits binary32 v)) → v / 0x80_0000 % 256 ≡ 255 → ⊥
unfolding of_bits
below_255 v h e = not_finite (leb (top binary32) v) (v % 0x80_0000) (subst (λ (x : ℕ). T (lib.Ieee.Scale.finite (of_fields binary32 (leb (top binary32) v) x (v % 0x80_0000)))) field h)
  where
    field : v % 0x8000_0000 / 0x80_0000 ≡ 255
    field = omega (arith, e)

-- ---- finite values
module _ (x : Float) (fit : Finite binary32 x) where
  read : of_bits binary32 (to_bits binary32 x) ≡ x
  read = of_bits-to_bits binary32 x fit.fit

  -- what is read of what is written is the value, a zero as +0
  pub value_back : float_of (placed_value x) ≡ unsigned_zero x
  value_back = go (eq x zero32) refl
    where
      go : (b : Bool) → eq x zero32 ≡ b → float_of (placed_value x) ≡ cond b zero32 x
      go true e = ap (of_bits binary32) (value_of x true e)
      go false e = ap (of_bits binary32) (value_of x false e) ∙ read

  -- what is written is the pattern of a finite value, and not that of -0
  pub value_placed : is_placed (placed_value x) ≡ true
  value_placed = go (eq x zero32) refl
    where
      v : ℕ
      v = to_bits binary32 x

      go : (b : Bool) → eq x zero32 ≡ b → is_placed (placed_value x) ≡ true
      go true e = ap is_placed (value_of x true e)
      go false e =
          ap is_placed (value_of x false e)
          ∙ both (not (eqb (v / 0x80_0000 % 256) 255)) (not (eqb v 2147483648))
          (ap not (ne_eqb (v / 0x80_0000 % 256) 255 (below_255 v (subst (λ (y : Float). T (lib.Ieee.Scale.finite y)) (sym read) fit.finite))))
          (ap not (ne_eqb v 2147483648 (λ p. true≢false (sym minus_zero ∙ ap (λ (y : Float). eq y zero32) (ap (of_bits binary32) (sym p) ∙ read) ∙ e))))

  pub value_small : placed_value x ≤ 4294967295
  value_small = go (eq x zero32) refl
    where
      go : (b : Bool) → eq x zero32 ≡ b → placed_value x ≤ 4294967295
      go true e = omega (arith, value_of x true e)
      go false e = let h : to_bits binary32 x < 4294967296 = to_bits-lt binary32 x fit.fit in omega (arith, value_of x false e)
