-- A placed number as text: its value to the nearest millionth, and its pattern. Definitions only.
-- p is the pattern of a binary32. Its value is the significand over a power of 2, where it is below 2 ^ 24 either way; of any other there is the pattern alone.
use Rattle.std.specs.Prelude.{cond, List, [], ◌∷◌, ◌++◌, ℕ, ◌+◌, ◌-◌, ◌*◌, ◌/◌, ◌%◌, ◌^◌, eqb, ltb}
use Rattle.lists.specs.Table.{table}
use Rattle.text.specs.Decimal.{decimal_of}

-- the exponent's field
abbrev pub exponent_of : ℕ → ℕ
exponent_of p = p / 0x80_0000 % 256

-- the significand, as a whole number; a field of 0 has no leading 1
unfoldable pub significand_of : ℕ → ℕ
significand_of p = p % 0x80_0000 + cond (eqb (exponent_of p) 0) 0 0x80_0000

-- the power of 2 by which it is divided; a field of 0 counts as 1
unfoldable pub shift_of : ℕ → ℕ
shift_of p = cond (eqb (exponent_of p) 0) 149 (150 - exponent_of p)

-- the magnitude in millionths, to the nearest, a half up
unfoldable pub millionths : ℕ → ℕ
millionths p = (2 * significand_of p * 1000000 + 2 ^ shift_of p) / 2 ^ (shift_of p + 1)

-- "-" for a pattern with the sign's bit
unfoldable pub sign_text : ℕ → List ℕ
sign_text p = cond (ltb p 0x8000_0000) [] (45 ∷ [])

-- the last six digits of n, with leading zeros
unfoldable pub six_digits : ℕ → List ℕ
six_digits n = table 6 (λ k. 48 + n / 10 ^ (5 - k) % 10)

-- "-1.250000"
unfoldable pub decimal_text : ℕ → List ℕ
decimal_text p = sign_text p ++ (decimal_of (millionths p / 1000000) ++ (46 ∷ six_digits (millionths p)))

-- "of "
abbrev pub of_word : List ℕ
of_word = 111 ∷ 102 ∷ 32 ∷ []

-- ", "
abbrev pub comma : List ℕ
comma = 44 ∷ 32 ∷ []

-- "pattern "
abbrev pub pattern_word : List ℕ
pattern_word = 112 ∷ 97 ∷ 116 ∷ 116 ∷ 101 ∷ 114 ∷ 110 ∷ 32 ∷ []

-- what stands before the pattern: "-1.250000, ", or "of " where the value is 2 ^ 24 or more either way, an infinity or a NaN
unfoldable pub amount_text : ℕ → List ℕ
amount_text p = cond (ltb 150 (exponent_of p)) of_word (decimal_text p ++ comma)

-- "-1.250000, pattern 3214934016"
unfoldable pub value_text : ℕ → List ℕ
value_text p = amount_text p ++ (pattern_word ++ decimal_of p)
