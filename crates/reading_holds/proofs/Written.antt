-- The header with their count and the lines of the items of an accepted text are that text. Assumes nothing.
use mathlib.Core.Path.{◌≡◌, refl, sym, ap, ap₂, ◌∙◌}
use mathlib.Core.Bool.{true, true≢false}
use mathlib.Core.List.{List, [], ◌∷◌, map}
use Prim.Native.Nat.{ℕ}
use borrow.Author.Tests.{eqb-true}
use lib.ListN.{length}
use Rattle.lists.proofs.Bools.{both_true}
use Rattle.lists.proofs.Lengths.{length_map}
use Rattle.lines.specs.declared.Row.{Row}
use Rattle.lines.specs.Line.{lines_of}
use Rattle.sheet.specs.Rows.{row, header}
use Rattle.fields.specs.Fields.{column_form, rows_in}
use Rattle.fields.proofs.Texts.{SmallRows, one_row, text_written}
use Rattle.items.specs.Items.{row_of, is_item, item_of}
use Rattle.items.proofs.Back.{row_back}
use Rattle.reading.specs.Rules.{every, is_body, is_header, is_sheet}
use Rattle.reading.specs.Reading.{following, items_in}
use Rattle.reading.proofs.Body.{body_view}
use Rattle.reading_holds.specs.Claims.{WrittenBackClaim}
use Rattle.reading_holds.proofs.Refusals.{header_view, refusals}

-- the lines after the header
rows_back : (rs : List Row) → SmallRows rs → every is_item rs ≡ true → map row_of (map item_of rs) ≡ rs
unfolding every
rows_back [] s e = refl
rows_back (r ∷ rs) (one_row h s) e =
    let b = both_true (is_item r) (every is_item rs) e in
    ap₂ {C = List Row} (λ (t : Row) (ts : List Row). t ∷ ts) (row_back r h.value_small b.0) (rows_back rs s b.1)

-- the header
header_back : (r : Row) (n : ℕ) → is_header r n ≡ true → header n ≡ r
header_back r n e =
    let h = header_view r n e in
    sym (ap₂ (λ (x y : ℕ). row x y r.number r.value) (eqb-true r.kind 0 h.kind) (eqb-true r.side 2 h.side)
    ∙ ap₂ (λ (x y : ℕ). row 0 2 x y) (eqb-true r.number n h.number) (eqb-true r.value 1 h.value))

-- the lines of the items of a sheet
sheet_back : (rows : List Row) → SmallRows rows → is_sheet rows ≡ true → header (length (map item_of (following rows))) ∷ map row_of (map item_of (following rows)) ≡ rows
sheet_back [] s e = absurd (true≢false (sym e))
sheet_back (r ∷ rs) (one_row h s) e =
    let b = both_true (is_header r (length rs)) (is_body rs) e in
    ap₂ {C = List Row} (λ (t : Row) (ts : List Row). t ∷ ts) (ap header (length_map item_of rs) ∙ header_back r (length rs) b.0) (rows_back rs s (body_view rs b.1).items)

pub written_back : WrittenBackClaim
unfolding items_in
written_back text z =
    let b = both_true (column_form text) (is_sheet (rows_in text)) ((refusals text).a_sheet z) in
    let w = text_written text b.0 in
    ap lines_of (sheet_back (rows_in text) w.1 b.1) ∙ w.0
