-- Which words of 32 bits are within their columns, and which are a situation: 563 of them, all within. Definitions only.
use Rattle.std.specs.Prelude.{Bool, ◌&&◌, cond, List, ℕ, zero, suc, ◌+◌, min, leb, eqb, length, get_or}
use Rattle.columns.specs.Layout.{word_count, columns}

-- a word is one of its column's values, by the greatest value of each column
abbrev pub in_column : List ℕ → List ℕ → ℕ → Bool
in_column greatest ws i = leb (get_or ws i 0) (get_or greatest i 0)

-- k places, and one more where these are all of n and the place n is in
abbrev pub grown : ℕ → ℕ → Bool → ℕ
grown k n b = cond (eqb k n && b) (n + 1) k

-- how many of the places 0, 1, .., n - 1 hold before the first that does not
unfoldable pub front_to : ℕ → (ℕ → Bool) → ℕ
front_to zero P = 0
front_to (suc n) P = grown (front_to n P) n (P n)

-- how many words there are before the first that is missing or none of its column's values
unfoldable pub front_within : List ℕ → List ℕ → ℕ
front_within greatest ws = front_to (min (length ws) (length greatest)) (in_column greatest ws)

-- the same by the columns of a situation
unfoldable pub words_within : List ℕ → ℕ
words_within ws = front_within columns ws

-- 563 words, of which all are within
unfoldable pub is_situation : List ℕ → Bool
is_situation ws = eqb (length ws) word_count && eqb (words_within ws) word_count
