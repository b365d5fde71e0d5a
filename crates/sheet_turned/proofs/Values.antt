-- x and y of a place, as the sheet writes them. Assumes nothing.
use mathlib.Core.Path.{◌≡◌, refl, sym, ap, subst, ◌∙◌}
use mathlib.Core.Logic.{inl, inr}
use mathlib.Core.Bool.{Bool, true, false, cond, true≢false}
use Prim.Native.Nat.{ℕ}
use native.Mathlib.Omega.{arith}
use lib.Dec.{T}
use lib.Ieee.{Float, binary32, neg, eq, fits, of_bits, to_bits}
use lib.Ieee.Bits.{of_bits-to_bits}
use lib.Ieee.Fits.{neg-fits}
use Rattle.floats.specs.Arithmetic.{zero32}
use Rattle.floats.specs.Values.{Alike, Finite}
use Rattle.floats.proofs.Laws.Signs.{alike_refl}
use Rattle.floats.proofs.Laws.Zeros.{alike_eq, zero_told, zero_neg}
use Rattle.sheet.specs.Rows.{placed_value}
use Rattle.sheet_turned.specs.Claims.{TurnedValue, negated, zeros, OneZeroClaim}

-- a value, by whether it is a zero
value_of : (x : Float) (b : Bool) → eq x zero32 ≡ b → placed_value x ≡ cond b 0 (to_bits binary32 x)
unfolding placed_value
value_of x b e = ap (λ (z : Bool). cond z 0 (to_bits binary32 x)) e

-- the negated float, or both of them zeros: a zero exactly where x is one
zero_too : (x x' : Float) → Alike x' (neg x) → eq x' zero32 ≡ eq x zero32
zero_too x x' h = alike_eq x' (neg x) zero32 zero32 h (alike_refl zero32) ∙ zero_neg x

pub value_turned : (x x' : Float) → Finite binary32 x → Alike x' (neg x) → TurnedValue (placed_value x) (placed_value x')
value_turned x x' fit h = go (eq x zero32) refl h
  where
    both : {v w : ℕ} → placed_value x ≡ v → placed_value x' ≡ w → TurnedValue v w → TurnedValue (placed_value x) (placed_value x')
    both {v} {w} p q t = subst (λ (u : ℕ). TurnedValue u (placed_value x')) (sym p) (subst (λ (u : ℕ). TurnedValue v u) (sym q) t)

    go : (b : Bool) → eq x zero32 ≡ b → Alike x' (neg x) → TurnedValue (placed_value x) (placed_value x')
    go true e h = both (value_of x true e) (value_of x' true (zero_too x x' h ∙ e)) zeros
    go false e (inl p) = both (value_of x false e) (value_of x' false (zero_too x x' (inl p) ∙ e) ∙ ap (to_bits binary32) p) (negated x fit e)
    go false e (inr z) = absurd (true≢false (sym (zero_told x' z.0) ∙ zero_too x x' (inr z) ∙ e))

-- ---- a pattern of a zero is that of no other value
pattern_zero : (b : ℕ) (x : Float) → T (fits binary32 x) → to_bits binary32 x ≡ b → eq x zero32 ≡ eq (of_bits binary32 b) zero32
pattern_zero b x fit e = ap (λ (v : Float). eq v zero32) (sym (of_bits-to_bits binary32 x fit) ∙ ap (of_bits binary32) e)

plus_zero : eq (of_bits binary32 0) zero32 ≡ true
unfolding of_bits eq
plus_zero = refl

minus_zero : eq (of_bits binary32 2147483648) zero32 ≡ true
unfolding of_bits eq
minus_zero = refl

pub one_zero : OneZeroClaim
one_zero v w zeros = record { zero_stays = λ e. refl; zero_before = λ e. refl; no_other = (λ e. omega arith, λ e. omega arith) }
one_zero v w (negated x fit e) =
    let no : (b : ℕ) → eq (of_bits binary32 b) zero32 ≡ true → to_bits binary32 x ≡ b → ⊥ = λ b z p. true≢false (sym z ∙ sym (pattern_zero b x fit.fit p) ∙ e) in
    let turned : (b : ℕ) → eq (of_bits binary32 b) zero32 ≡ true → to_bits binary32 (neg x) ≡ b → ⊥ = λ b z p. true≢false (sym z ∙ sym (pattern_zero b (neg x) (neg-fits binary32 x fit.fit) p) ∙ zero_neg x ∙ e) in
    record {
      zero_stays = λ p. absurd (no 0 plus_zero p);
      zero_before = λ p. absurd (turned 0 plus_zero p);
      no_other = (no 2147483648 minus_zero, turned 2147483648 minus_zero);
    }
