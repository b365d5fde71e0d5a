-- What the reader answers. Definitions only.
use Rattle.std.specs.Prelude.{Bool, true, not, ◌||◌, cond, Option, None, Some, Result, Ok, Err, List, [], ◌∷◌, map, ℕ, zero, suc, eqb, length}
use Rattle.lists.specs.Refusals.{Requirement, first_refusal}
use Rattle.lines.specs.declared.Row.{Row}
use Rattle.fields.specs.Fields.{column_form, rows_in}
use Rattle.items.specs.Items.{row_of, item_of}
use Rattle.items.specs.declared.Item.{Item}
use Rattle.reading.specs.Rules.{is_sheet}
use Rattle.reading.specs.declared.NoSheet.{NoSheet}
use Rattle.reading.specs.declared.NoSheet.TheVariants.{NotLines, Miscounted, Breach}

-- ---- refusals
-- the first line, where it has kind 0, has as its number how many lines come after it
abbrev pub counted : List Row → Bool
counted [] = true
counted (r ∷ rs) = not (eqb r.kind 0) || eqb r.number (length rs)

-- 9: lines in column form; 10: the count; 11: a sheet
abbrev pub read_requirements : List ℕ → List Requirement
read_requirements text = record { holds = column_form text; number = 9 } ∷ record { holds = counted (rows_in text); number = 10 } ∷ record { holds = is_sheet (rows_in text); number = 11 } ∷ []

-- the first refusal, 0 for none
unfoldable pub read_refusal : List ℕ → ℕ
read_refusal text = first_refusal (read_requirements text)

-- the number of each
abbrev pub number_of : NoSheet → ℕ
number_of NotLines = 9
number_of Miscounted = 10
number_of Breach = 11

-- the one with a number, of the three
abbrev pub refusal_of : ℕ → NoSheet
refusal_of n = cond (eqb n 9) NotLines (cond (eqb n 10) Miscounted Breach)

-- a value where the number is 0, which stands for no refusal, or the refusal with this number
abbrev pub unless_refused : {A : Type 0} → ℕ → A → Result A NoSheet
unless_refused n x = cond (eqb n 0) (Ok x) (Err (refusal_of n))

-- ---- items
-- the lines after the first
abbrev pub following : List Row → List Row
following [] = []
following (r ∷ rs) = rs

-- the items of a text
unfoldable pub items_in : List ℕ → List Item
items_in text = map item_of (following (rows_in text))

-- ---- answers
-- a refusal, or how many lines follow the header
unfoldable pub sheet_read : List ℕ → Result ℕ NoSheet
sheet_read text = unless_refused (read_refusal text) (length (items_in text))

-- the item k, from 0; none past the last
unfoldable pub nth_item : ℕ → List Item → Option Item
nth_item k [] = None
nth_item zero (i ∷ is) = Some i
nth_item (suc k) (i ∷ is) = nth_item k is

-- the item of a line after the header, from 1; none for 0
abbrev pub asked_item : ℕ → List Item → Option Item
asked_item zero is = None
asked_item (suc k) is = nth_item k is

-- a refusal, whatever line is asked for; or the item, or none
unfoldable pub item_read : List ℕ → ℕ → Result (Option Item) NoSheet
item_read text line = unless_refused (read_refusal text) (asked_item line (items_in text))

-- the same by the numbers of the item
abbrev pub numbers_of : Result (Option Item) NoSheet → Result (Option Row) NoSheet
numbers_of (Err e) = Err e
numbers_of (Ok None) = Ok None
numbers_of (Ok (Some i)) = Ok (Some (row_of i))

unfoldable pub numbers_read : List ℕ → ℕ → Result (Option Row) NoSheet
numbers_read text line = numbers_of (item_read text line)
