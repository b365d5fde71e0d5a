-- Texts, evaluated by the definitions. The numbers are worked out from the words of document 02's third request. Assumes nothing.
use mathlib.Core.Path.{◌≡◌, refl}
use mathlib.Core.List.{List, [], ◌∷◌}
use Prim.Native.Nat.{ℕ}
use lib.ListN.{set, take}
use Rattle.lists.specs.Every.{every_to}
use Rattle.lines.specs.declared.Row.{Row}
use Rattle.lines.specs.Line.{column_byte, columns_of, line_of, lines_of}
use Rattle.numbers.specs.Numbers.{all_digits, value_from}
use Rattle.sheet.specs.Rows.{row, header}
use Rattle.fields.specs.Fields.{blanks_in, is_written, is_line, row_in, column_form, rows_in}
use Rattle.items.specs.Items.{is_item}
use Rattle.reading.specs.Rules.{only, every, each_next, ranks_from, none_twice, is_body}
use Rattle.reading.specs.Reading.{read_refusal}

-- the sheet of document 01's case A
unfoldable case_a : List Row
case_a = header 2 ∷ row 2 0 5 1 ∷ row 6 1 1 0 ∷ []

unfoldable text_a : List ℕ
text_a = lines_of case_a

-- the refusal of the lines of rows
unfoldable told : List Row → ℕ
told rows = read_refusal (lines_of rows)

accepted : told case_a ≡ 0
unfolding told case_a column_byte columns_of line_of lines_of every_to all_digits value_from blanks_in is_written is_line row_in column_form rows_in is_item only every each_next ranks_from none_twice is_body read_refusal
accepted = refl

header_alone : told (header 0 ∷ []) ≡ 0
unfolding told column_byte columns_of line_of lines_of every_to all_digits value_from blanks_in is_written is_line row_in column_form rows_in is_item only every each_next ranks_from none_twice is_body read_refusal
header_alone = refl

empty : read_refusal [] ≡ 11
unfolding every_to column_form rows_in read_refusal
empty = refl

-- the last byte is missing
cut_off : read_refusal (take 134 text_a) ≡ 9
unfolding text_a case_a column_byte columns_of line_of lines_of column_form read_refusal
cut_off = refl

-- "05" in place of " 5" in the number of line 1
leading_zero : read_refusal (set text_a 76 48) ≡ 9
unfolding text_a case_a column_byte columns_of line_of lines_of every_to all_digits value_from blanks_in is_written is_line row_in column_form rows_in read_refusal
leading_zero = refl

-- a count too high, with a header of another side, and without
count_first : told (row 0 1 3 1 ∷ row 2 0 5 1 ∷ row 6 1 1 0 ∷ []) ≡ 10
unfolding told column_byte columns_of line_of lines_of every_to all_digits value_from blanks_in is_written is_line row_in column_form rows_in read_refusal
count_first = refl

other_value : told (row 0 2 0 2 ∷ []) ≡ 11
unfolding told column_byte columns_of line_of lines_of every_to all_digits value_from blanks_in is_written is_line row_in column_form rows_in is_item only every each_next ranks_from none_twice is_body read_refusal
other_value = refl

-- a player twice in kind 4
player_twice : told (header 2 ∷ row 4 0 4 0 ∷ row 4 0 4 0 ∷ []) ≡ 11
unfolding told column_byte columns_of line_of lines_of every_to all_digits value_from blanks_in is_written is_line row_in column_form rows_in is_item only every each_next ranks_from none_twice is_body read_refusal
player_twice = refl

-- Away's excess before Home's
away_first : told (header 2 ∷ row 2 1 4 1 ∷ row 2 0 4 1 ∷ []) ≡ 11
unfolding told column_byte columns_of line_of lines_of every_to all_digits value_from blanks_in is_written is_line row_in column_form rows_in is_item only every each_next ranks_from none_twice is_body read_refusal
away_first = refl

-- a place, and one with the pattern of -0
placed : told (header 3 ∷ row 7 2 0 1065353216 ∷ row 8 2 0 0 ∷ row 9 2 0 2139095039 ∷ []) ≡ 0
unfolding told column_byte columns_of line_of lines_of every_to all_digits value_from blanks_in is_written is_line row_in column_form rows_in is_item only every each_next ranks_from none_twice is_body read_refusal
placed = refl

minus_zero : told (header 3 ∷ row 7 2 0 1065353216 ∷ row 8 2 0 2147483648 ∷ row 9 2 0 0 ∷ []) ≡ 11
unfolding told column_byte columns_of line_of lines_of every_to all_digits value_from blanks_in is_written is_line row_in column_form rows_in is_item only every each_next ranks_from none_twice is_body read_refusal
minus_zero = refl
