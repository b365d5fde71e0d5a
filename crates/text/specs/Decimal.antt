-- A number in decimal. Definitions only.
use Rattle.std.specs.Prelude.{Bool, true, false, List, [], ◌∷◌, ◌++◌, ℕ, zero, suc, ◌+◌, ◌/◌, ◌%◌, ltb}

-- the digit alone where it is the first, else after the digits before it
abbrev pub grown : Bool → List ℕ → ℕ → List ℕ
grown true before digit = digit ∷ []
grown false before digit = before ++ (digit ∷ [])

-- the decimal digits of n, at most f of them, without leading zeros
unfoldable pub decimal_from : ℕ → ℕ → List ℕ
decimal_from zero n = []
decimal_from (suc f) n = grown (ltb n 10) (decimal_from f (n / 10)) (48 + n % 10)

-- the decimal digits of a number below 10 ^ 20, without leading zeros; of 0, "0"
abbrev pub decimal_of : ℕ → List ℕ
decimal_of n = decimal_from 20 n
