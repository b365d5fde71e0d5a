-- A number divided by 10 again and again gives the columns of its decimal form, from the last to the first. Assumes nothing.
use mathlib.Core.Path.{◌≡◌, refl, sym, ap, ◌∙◌}
use mathlib.Core.Bool.{Bool, true, false, cond, ◌&&◌}
use Prim.Native.Nat.{ℕ, suc, ◌+◌, ◌-◌, ◌*◌, ◌/◌, ◌%◌, ◌^◌, ◌≤◌, ◌<◌}
use native.Mathlib.Nat.{div-div-eq-div-mul, div-lt_iff_lt-mul, div-eq_of_lt, one-le-pow, pow-suc}
use native.Mathlib.Omega.{arith}
use borrow.Author.Tests.{eq-eqb, ne_eqb, ltb-true, ltb-false}
use lib.Dec.{eqb, ltb, lit≤}
use Rattle.lines.specs.Line.{column_byte, rest_byte}

-- nothing is left of v above the digit of p exactly when v is below p
nothing_left : (v p : ℕ) → 0 < p → eqb (v / p) 0 ≡ ltb v p
nothing_left v p pos = go (ltb v p) refl
  where
    go : (b : Bool) → ltb v p ≡ b → eqb (v / p) 0 ≡ b
    go true e = eq-eqb _ _ (div-eq_of_lt (ltb-true v p e))
    go false e = ne_eqb (v / p) 0 (λ (z : v / p ≡ 0). let low : v < 1 * p = (div-lt_iff_lt-mul pos).0 (omega (arith, z)) in omega (arith, low, ltb-false v p e))

column_of : (v c : ℕ) → rest_byte (v / 10 ^ (10 - c)) c ≡ column_byte v c
unfolding column_byte
column_of v c = ap (λ (b : Bool). cond (b && ltb c 10) 32 (48 + v / 10 ^ (10 - c) % 10)) (nothing_left v (10 ^ (10 - c)) (one-le-pow _ 10 (lit≤ tt)))

-- the byte that is written in the column c - 1
pub column_told : (v c rest : ℕ) → 0 < c → rest ≡ v / 10 ^ (11 - c) → rest_byte rest (c - 1) ≡ column_byte v (c - 1)
column_told v c rest pos e =
    let same : 11 - c ≡ 10 - (c - 1) = omega arith in
    ap (λ (q : ℕ). rest_byte q (c - 1)) (e ∙ ap (λ (k : ℕ). v / 10 ^ k) same) ∙ column_of v (c - 1)

-- what is left after it
pub rest_turn : (v c rest : ℕ) → 0 < c → c ≤ 11 → rest ≡ v / 10 ^ (11 - c) → rest / 10 ≡ v / 10 ^ (11 - (c - 1))
rest_turn v c rest pos low e =
    let more : suc (11 - c) ≡ 11 - (c - 1) = omega arith in
    ap (λ (q : ℕ). q / 10) e
    ∙ div-div-eq-div-mul v (10 ^ (11 - c)) 10
    ∙ ap (λ (q : ℕ). v / q) (sym (pow-suc 10 (11 - c)))
    ∙ ap (λ (k : ℕ). v / 10 ^ k) more
