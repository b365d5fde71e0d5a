-- A placed number's text by the steps of the code. Assumes nothing.
use mathlib.Core.Path.{◌≡◌, sym, ap, ◌∙◌}
use mathlib.Core.List.{[], ◌∷◌, ◌++◌, append_assoc}
use Prim.Native.Nat.{ℕ, ◌+◌, ◌-◌, ◌*◌, ◌/◌, ◌%◌, ◌^◌, ◌≤◌, ◌<◌}
use native.Mathlib.Nat.{div-eq_of_lt, div-le_self, div-div-eq-div-mul, add-div_right, pow-suc, one-le-pow, pow-le-pow_right}
use native.Mathlib.Numerals.{add-one}
use native.Mathlib.Omega.{arith}
use borrow.Author.Tests.{lt-ltb, le-ltb, eq-eqb, ne_eqb}
use lib.Dec.{lit<}
use Rattle.text.specs.Decimal.{decimal_of}
use Rattle.item_lines.specs.Values.{exponent_of, significand_of, shift_of, millionths, sign_text, six_digits, decimal_text, of_word, comma, amount_text}

-- ---- the significand and the power of 2
module _ (p : ℕ) where
  pub significand_low : exponent_of p ≡ 0 → p % 0x80_0000 ≡ significand_of p
  unfolding significand_of
  significand_low e = simp (eq-eqb (exponent_of p) 0 e) (omega arith)

  pub significand_high : (exponent_of p ≡ 0 → ⊥) → p % 0x80_0000 + 0x80_0000 ≡ significand_of p
  unfolding significand_of
  significand_high e = simp (ne_eqb (exponent_of p) 0 e)

  pub shift_low : exponent_of p ≡ 0 → 149 ≡ shift_of p
  unfolding shift_of
  shift_low e = simp (eq-eqb (exponent_of p) 0 e)

  pub shift_high : (exponent_of p ≡ 0 → ⊥) → 150 - exponent_of p ≡ shift_of p
  unfolding shift_of
  shift_high e = simp (ne_eqb (exponent_of p) 0 e)

-- ---- the millionths
-- rounded to the nearest, a half up: a division that drops a half, and one more by 2
halved : (a s : ℕ) → (a / 2 ^ s + 1) / 2 ≡ (a + 2 ^ s) / 2 ^ (s + 1)
halved a s =
    ap (λ (q : ℕ). q / 2) (sym (add-div_right a (one-le-pow s 2 (lit< tt))))
    ∙ div-div-eq-div-mul (a + 2 ^ s) (2 ^ s) 2
    ∙ ap (λ (q : ℕ). (a + 2 ^ s) / q) (sym (pow-suc 2 s) ∙ ap (λ (k : ℕ). 2 ^ k) (sym (add-one s)))

-- nothing is left where the power is more than twice as large
nothing : (a s : ℕ) → a < 2 ^ s → 0 ≡ (a + 2 ^ s) / 2 ^ (s + 1)
nothing a s h =
    let twice : 2 ^ (s + 1) ≡ 2 ^ s * 2 = ap (λ (k : ℕ). 2 ^ k) (add-one s) ∙ pow-suc 2 s in
    sym (div-eq_of_lt (omega (arith, twice)))

-- a power past 46 is larger than twice the millionths of any significand
pub millionths_none : (p m s : ℕ) → m ≡ significand_of p → s ≡ shift_of p → m < 0x100_0000 → 46 < s → 0 ≡ millionths p
unfolding millionths
millionths_none p m s e f low far =
    let large : 2 ^ 46 ≤ 2 ^ s = pow-le-pow_right {n = 2} (lit< tt) {i = 46} {j = s} (omega arith) in
    simp (← e, ← f) (nothing (2 * m * 1000000) s (omega (arith, large)))

pub millionths_some : (p m s : ℕ) → m ≡ significand_of p → s ≡ shift_of p → (m * 2000000 / 2 ^ s + 1) / 2 ≡ millionths p
unfolding millionths
millionths_some p m s e f =
    let same : m * 2000000 ≡ 2 * m * 1000000 = omega arith in
    simp (← e, ← f) (ap (λ (a : ℕ). (a / 2 ^ s + 1) / 2) same ∙ halved (2 * m * 1000000) s)

-- the sum before the last division is small
pub quotient_small : (m s : ℕ) → m < 0x100_0000 → m * 2000000 / 2 ^ s + 1 < 2 ^ 64
quotient_small m s h = omega (arith, div-le_self (m * 2000000) (2 ^ s))

-- ---- the texts
pub sign_none : (p : ℕ) → p < 0x8000_0000 → [] ≡ sign_text p
unfolding sign_text
sign_none p h = simp (lt-ltb p 0x8000_0000 h)

pub sign_minus : (p : ℕ) → 0x8000_0000 ≤ p → 45 ∷ [] ≡ sign_text p
unfolding sign_text
sign_minus p h = simp (le-ltb p 0x8000_0000 h)

pub six_told : (n a b c d e f : ℕ) → a ≡ 48 + n / 100000 % 10 → b ≡ 48 + n / 10000 % 10 → c ≡ 48 + n / 1000 % 10 → d ≡ 48 + n / 100 % 10 → e ≡ 48 + n / 10 % 10 → f ≡ 48 + n / 1 % 10
    → a ∷ b ∷ c ∷ d ∷ e ∷ f ∷ [] ≡ six_digits n
unfolding six_digits
six_told n a b c d e f ea eb ec ed ee ef = simp (ea, eb, ec, ed, ee, ef)

pub amount_pattern : (p : ℕ) → 150 < exponent_of p → of_word ≡ amount_text p
unfolding amount_text
amount_pattern p h = simp (lt-ltb 150 (exponent_of p) h)

pub amount_decimal : (p n : ℕ) → exponent_of p ≤ 150 → n ≡ millionths p → (((sign_text p ++ decimal_of (n / 1000000)) ++ (46 ∷ [])) ++ six_digits n) ++ comma ≡ amount_text p
unfolding amount_text decimal_text
amount_decimal p n h e = simp (e, le-ltb 150 (exponent_of p) h, append_assoc)
