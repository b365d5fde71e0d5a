-- Lines of the sheet, read back: 45 bytes each, four numbers right-justified with blanks in 11 columns and a line feed. Definitions only.
use Rattle.std.specs.Prelude.{Bool, true, false, not, ◌&&◌, cond, Option, None, Some, List, [], ◌∷◌, ℕ, suc, ◌*◌, ◌/◌, ◌%◌, eqb, length, take, drop, get_or}
use Rattle.lists.specs.Every.{every_to}
use Rattle.lists.specs.Table.{table}
use Rattle.numbers.specs.Numbers.{all_digits, value_from, value_of, is_small}
use Rattle.lines.specs.declared.Row.{Row}

-- ---- a number in its columns
-- one blank more than the rest has at its front, or none
abbrev pub blank_first : Bool → ℕ → ℕ
blank_first true n = suc n
blank_first false n = 0

-- how many blanks there are at the front
unfoldable pub blanks_in : List ℕ → ℕ
blanks_in [] = 0
blanks_in (b ∷ bs) = blank_first (eqb b 32) (blanks_in bs)

-- what follows them
abbrev pub after_blanks : List ℕ → List ℕ
after_blanks columns = drop (blanks_in columns) columns

-- at least one byte
abbrev pub is_some : List ℕ → Bool
is_some [] = false
is_some (b ∷ f) = true

-- more than one byte, the first of them a zero
abbrev pub has_leading_zero : List ℕ → Bool
has_leading_zero [] = false
has_leading_zero (b ∷ []) = false
has_leading_zero (b ∷ c ∷ f) = eqb b 48

-- at least one digit and digits only, no leading zero in more than one digit, and not above 4,294,967,295
unfoldable pub is_written : List ℕ → Bool
is_written f = is_some f && (not (has_leading_zero f) && (all_digits f && is_small (value_of f)))

-- blanks, then such a number
abbrev pub is_field : List ℕ → Bool
is_field columns = is_written (after_blanks columns)

-- the number
abbrev pub field_value : List ℕ → ℕ
field_value columns = value_of (after_blanks columns)

-- ---- a line
-- the 11 columns of a line from a byte on
abbrev pub columns_from : ℕ → List ℕ → List ℕ
columns_from at line = take 11 (drop at line)

-- 45 bytes: four numbers in their columns, then a line feed
unfoldable pub is_line : List ℕ → Bool
is_line l = eqb (length l) 45 && (is_field (columns_from 0 l) && (is_field (columns_from 11 l) && (is_field (columns_from 22 l) && (is_field (columns_from 33 l) && eqb (get_or l 44 0) 10))))

-- its numbers
unfoldable pub row_in : List ℕ → Row
row_in l = record { kind = field_value (columns_from 0 l); side = field_value (columns_from 11 l); number = field_value (columns_from 22 l); value = field_value (columns_from 33 l) }

-- what is read of it
unfoldable pub line_read : List ℕ → Option Row
line_read l = cond (is_line l) (Some (row_in l)) None

-- ---- a text
-- the bytes of its line i, from 0; fewer than 45 where the text ends
abbrev pub line_at : List ℕ → ℕ → List ℕ
line_at text i = take 45 (drop (45 * i) text)

-- how many times 45 bytes it has
abbrev pub line_count : List ℕ → ℕ
line_count text = length text / 45

-- lines in column form, one after the other, and no byte left over
unfoldable pub column_form : List ℕ → Bool
column_form text = eqb (length text % 45) 0 && every_to (line_count text) (λ i. is_line (line_at text i))

-- the numbers of its lines
unfoldable pub rows_in : List ℕ → List Row
rows_in text = table (line_count text) (λ i. row_in (line_at text i))

-- ---- of the private functions: the number in the columns, none where they hold no number
unfoldable pub value_in : List ℕ → Option ℕ
value_in columns = cond (is_field columns) (Some (field_value columns)) None

-- the number that the digits f after those of v are, none where they are no digits or it is above 4,294,967,295
unfoldable pub digits_from : ℕ → List ℕ → Option ℕ
digits_from v f = cond (all_digits f && is_small (value_from v f)) (Some (value_from v f)) None
