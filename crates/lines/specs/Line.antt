-- A line of the sheet: four decimal numbers, each right-justified with blanks in 11 columns, then a line feed. Definitions only.
use Rattle.std.specs.Prelude.{cond, ◌&&◌, List, [], ◌∷◌, ◌++◌, ℕ, ◌+◌, ◌-◌, ◌/◌, ◌%◌, ◌^◌, eqb, ltb}
use Rattle.lists.specs.Table.{table}
use Rattle.lines.specs.declared.Row.{Row}

-- the byte of v in the column c of 11: the digit of 10 ^ (10 - c), or a blank left of the first digit; the last column has a digit always
unfoldable pub column_byte : ℕ → ℕ → ℕ
column_byte v c = cond (ltb v (10 ^ (10 - c)) && ltb c 10) 32 (48 + v / 10 ^ (10 - c) % 10)

-- v in 11 columns
unfoldable pub columns_of : ℕ → List ℕ
columns_of v = table 11 (column_byte v)

-- the bytes of a line
unfoldable pub line_of : Row → List ℕ
line_of r = columns_of r.kind ++ (columns_of r.side ++ (columns_of r.number ++ (columns_of r.value ++ (10 ∷ []))))

-- the lines, one after the other
unfoldable pub lines_of : List Row → List ℕ
lines_of [] = []
lines_of (r ∷ rs) = line_of r ++ lines_of rs

-- ---- of a private function: the byte in the column c of a number of which the digits right of it are gone
abbrev pub rest_byte : ℕ → ℕ → ℕ
rest_byte rest c = cond (eqb rest 0 && ltb c 10) 32 (48 + rest % 10)
