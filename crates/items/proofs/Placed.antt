-- A number that a line of a place can have is written for the value with that pattern. Assumes nothing.
use mathlib.Core.Path.{◌≡◌, refl, sym, ap, ◌∙◌}
use mathlib.Core.Logic.{◌⊎◌, inl, inr}
use mathlib.Core.Bool.{Bool, true, false, not, ◌&&◌, cond}
use Prim.Native.Nat.{ℕ, ◌/◌, ◌%◌, ◌≤◌}
use native.Mathlib.Nat.{mod-lt, zero-lt-suc}
use native.Mathlib.Omega.{arith}
use borrow.Author.Tests.{eqb-false, not-true}
use lib.Arith.{mod-mul, digits_div}
use lib.IntN.{pos}
use lib.Dec.{T, eqb}
use lib.Ieee.{Float, fin, binary32, eq, is_nan, nan_bits, of_bits, to_bits}
use lib.Ieee.Bits.{of_bits-fits, to_bits-of_bits, nan_bits_is}
use Rattle.lists.proofs.Bools.{both_true, fails}
use Rattle.floats.specs.Arithmetic.{zero32}
use Rattle.floats.specs.Leaves.{negative}
use Rattle.floats.specs.Values.{pos_zero, Alike}
use Rattle.floats.proofs.Laws.Zeros.{zero_is, zero_alike}
use Rattle.sheet.specs.Rows.{placed_value}
use Rattle.items.specs.Items.{is_placed, float_of}

-- ---- no NaN
-- the field of the exponent
field : (v : ℕ) → v % 2147483648 / 0x80_0000 ≡ v / 0x80_0000 % 256
field v =
    ap (λ (w : ℕ). w / 0x80_0000) (mod-mul v {m = 256} {c = 0x80_0000} (zero-lt-suc 255) (zero-lt-suc 8388607))
    ∙ digits_div (v / 0x80_0000 % 256) (mod-lt v (zero-lt-suc 8388607))

no_nan : (v : ℕ) → eqb (v / 0x80_0000 % 256) 255 ≡ false → T (not (is_nan (of_bits binary32 v)))
unfolding nan_bits
no_nan v e =
    fails (is_nan (of_bits binary32 v))
    (sym (nan_bits_is binary32 v) ∙ ap (λ (b : Bool). b && not (eqb (v % 0x80_0000) 0)) (ap (λ (x : ℕ). eqb x 255) (field v) ∙ e))

-- ---- zeros
-- the pattern of a zero, by its sign
zero_pattern : (s : Bool) → (to_bits binary32 (fin s 0 (pos 0)) ≡ 0) ⊎ (to_bits binary32 (fin s 0 (pos 0)) ≡ 2147483648)
unfolding to_bits
zero_pattern false = inl refl
zero_pattern true = inr refl

alike_pattern : (x : Float) → Alike x pos_zero → (to_bits binary32 x ≡ 0) ⊎ (to_bits binary32 x ≡ 2147483648)
alike_pattern x (inl e) = inl (ap (to_bits binary32) e ∙ unfold to_bits in refl)
alike_pattern x (inr h) = go (zero_pattern (negative x))
  where
    go : (to_bits binary32 (fin (negative x) 0 (pos 0)) ≡ 0) ⊎ (to_bits binary32 (fin (negative x) 0 (pos 0)) ≡ 2147483648) → (to_bits binary32 x ≡ 0) ⊎ (to_bits binary32 x ≡ 2147483648)
    go (inl e) = inl (ap (to_bits binary32) (zero_is x h.0) ∙ e)
    go (inr e) = inr (ap (to_bits binary32) (zero_is x h.0) ∙ e)

-- ---- what is written
pub placed_back : (v : ℕ) → v ≤ 4294967295 → is_placed v ≡ true → placed_value (float_of v) ≡ v
unfolding placed_value
placed_back v h e = go (eq x zero32) refl
  where
    x : Float
    x = of_bits binary32 v

    p : (not (eqb (v / 0x80_0000 % 256) 255) ≡ true) × (not (eqb v 2147483648) ≡ true)
    p = both_true (not (eqb (v / 0x80_0000 % 256) 255)) (not (eqb v 2147483648)) e

    number : T (not (is_nan x))
    number = no_nan v (not-true (eqb (v / 0x80_0000 % 256) 255) p.0)

    back : to_bits binary32 x ≡ v
    back = to_bits-of_bits binary32 v (omega arith) number

    zero_back : (to_bits binary32 x ≡ 0) ⊎ (to_bits binary32 x ≡ 2147483648) → 0 ≡ v
    zero_back (inl z) = sym z ∙ back
    zero_back (inr z) = absurd (eqb-false v 2147483648 (not-true (eqb v 2147483648) p.1) (sym back ∙ z))

    go : (b : Bool) → eq x zero32 ≡ b → cond (eq x zero32) 0 (to_bits binary32 x) ≡ v
    go true z = ap (λ (b : Bool). cond b 0 (to_bits binary32 x)) z ∙ zero_back (alike_pattern x (zero_alike x (record { fit = of_bits-fits binary32 v; no_nan = number }) z))
    go false z = ap (λ (b : Bool). cond b 0 (to_bits binary32 x)) z ∙ back
