-- The lines of a decision are a sheet, and its text is read back. Assumes nothing.
use mathlib.Core.Path.{◌≡◌, refl, ap, ◌∙◌}
use mathlib.Core.Bool.{true, ◌&&◌}
use mathlib.Core.List.{List, map}
use Prim.Native.Nat.{ℕ, ◌≤◌}
use native.Mathlib.Omega.{arith}
use borrow.Author.Tests.{eq-eqb}
use lib.Dec.{eqb}
use lib.ListN.{length}
use Rattle.lists.proofs.Bools.{both}
use Rattle.lists.proofs.Refusals.{none_refused}
use Rattle.game.specs.declared.Decision.{Decision}
use Rattle.lines.specs.declared.Row.{Row}
use Rattle.sheet.specs.Rows.{header, rows_of, sheet_rows}
use Rattle.sheet.specs.Sheet.{text_of}
use Rattle.sheet.proofs.Answers.{text_long}
use Rattle.sheet.proofs.Room.{text_few}
use Rattle.fields.specs.Fields.{column_form, rows_in}
use Rattle.fields.proofs.Texts.{SmallRows, no_rows, one_row, text_read}
use Rattle.items.specs.Items.{item_of}
use Rattle.reading.specs.Rules.{is_body, is_sheet}
use Rattle.reading.specs.Reading.{counted, following, read_requirements, read_refusal, items_in}
use Rattle.reading.proofs.All.{All, no_more, one_more}
use Rattle.reading_holds.specs.Decided.{items_of}
use Rattle.reading_holds.proofs.Orderly.{Orderly}
use Rattle.reading_holds.proofs.Faithful.{Low, low_small}
use Rattle.reading_holds.proofs.Back.{items_back, rows_low}
use Rattle.reading_holds.proofs.Body.{body}

-- ---- numbers of 32 bits
low_rows : {rs : List Row} → All Low rs → SmallRows rs
low_rows no_more = no_rows
low_rows (one_more {x = r} h hs) = one_row (low_small r h) (low_rows hs)

-- ---- a text by the lines that are read of it
text_accepted : (text : List ℕ) (rs : List Row) → column_form text ≡ true → rows_in text ≡ rs → counted rs ≡ true → is_sheet rs ≡ true → read_refusal text ≡ 0
unfolding read_refusal
text_accepted text rs form e count sheet =
    none_refused (read_requirements text)
    (both (column_form text) _ form (both (counted (rows_in text)) _ (ap counted e ∙ count) (both (is_sheet (rows_in text)) true (ap is_sheet e ∙ sheet) refl)))

module _ (d : Decision) (o : Orderly d) where
  few_rows : length (rows_of d) ≤ 165
  few_rows = omega (arith, text_long d, text_few d o.home.short o.away.short)

  pub small : SmallRows (sheet_rows d)
  unfolding sheet_rows
  small = one_row {r = header (length (rows_of d))} (record { kind_small = omega arith; side_small = omega arith; number_small = omega (arith, few_rows); value_small = omega arith }) (low_rows (rows_low d o))

  count_told : eqb (length (rows_of d)) (length (rows_of d)) ≡ true
  count_told = eq-eqb (length (rows_of d)) (length (rows_of d)) refl

  pub sheet_decided : is_sheet (sheet_rows d) ≡ true
  unfolding sheet_rows
  sheet_decided = both (eqb (length (rows_of d)) (length (rows_of d)) && true) (is_body (rows_of d)) (both (eqb (length (rows_of d)) (length (rows_of d))) true count_told refl) (body d o)

  -- ---- its text
  text_lines : (column_form (text_of d) ≡ true) × (rows_in (text_of d) ≡ sheet_rows d)
  unfolding text_of
  text_lines = text_read (sheet_rows d) small

  header_counts : counted (sheet_rows d) ≡ true
  unfolding sheet_rows
  header_counts = count_told

  pub text_of_read : read_refusal (text_of d) ≡ 0
  text_of_read = text_accepted (text_of d) (sheet_rows d) text_lines.0 text_lines.1 header_counts sheet_decided

  after_header : following (sheet_rows d) ≡ rows_of d
  unfolding sheet_rows
  after_header = refl

  pub text_of_items : items_in (text_of d) ≡ items_of d
  unfolding items_in
  text_of_items = ap (λ (rs : List Row). map item_of (following rs)) text_lines.1 ∙ ap (map item_of) after_header ∙ items_back d o
