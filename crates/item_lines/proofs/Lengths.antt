-- The greatest lengths of a placed number. Assumes nothing.
use mathlib.Core.Path.{◌≡◌, refl}
use mathlib.Core.Bool.{Bool, true, false, cond}
use mathlib.Core.List.{[], ◌∷◌, ◌++◌}
use Prim.Native.Nat.{ℕ, ◌/◌, ◌≤◌}
use native.Mathlib.Omega.{arith}
use lib.Dec.{ltb}
use lib.ListN.{length, length-append}
use Rattle.text.proofs.Decimal.{decimal_most}
use Rattle.item_lines.specs.Values.{exponent_of, millionths, sign_text, six_digits, decimal_text, of_word, comma, amount_text, value_text}

sign_few : (p : ℕ) → length (sign_text p) ≤ 1
unfolding sign_text
sign_few p = go (ltb p 0x8000_0000)
  where
    go : (b : Bool) → length {A = ℕ} (cond b [] (45 ∷ [])) ≤ 1
    go true = omega arith
    go false = omega arith

-- the digits after the point
six_long : (n : ℕ) → length (six_digits n) ≡ 6
unfolding six_digits
six_long n = refl

-- with sign and point
decimal_text_few : (p : ℕ) → length (decimal_text p) ≤ 28
unfolding decimal_text
decimal_text_few p = simp (length-append, six_long) (omega (arith, sign_few p, decimal_most 20 (millionths p / 1000000)))

amount_few : (p : ℕ) → length (amount_text p) ≤ 30
unfolding amount_text
amount_few p = go (ltb 150 (exponent_of p))
  where
    go : (b : Bool) → length (cond b of_word (decimal_text p ++ comma)) ≤ 30
    go true = omega arith
    go false = omega (arith, decimal_text_few p, length-append (decimal_text p) comma)

pub value_few : (p : ℕ) → length (value_text p) ≤ 58
unfolding value_text
value_few p = simp length-append (omega (arith, amount_few p, decimal_most 20 p))
