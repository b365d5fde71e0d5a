-- What is claimed of sheets that are read: which texts are accepted, and that what is read is what was written, both ways. Definitions only.
use Rattle.std.specs.Prelude.{◌≡◌, Ok, Bool, true, false, ◌&&◌, List, ◌∷◌, map, ℕ, ◌≤◌, Float, length, take}
use Rattle.game.specs.declared.Situation.{Situation}
use Rattle.decision.specs.Decision.{decision_of}
use Rattle.lines.specs.Line.{lines_of}
use Rattle.sheet.specs.Rows.{header}
use Rattle.call.specs.declared.SheetFor.{SheetFor}
use Rattle.call.specs.Call.{sheet_answer, sheet_after}
use Rattle.words.specs.Words.{situation_of}
use Rattle.places_hold.specs.Claims.{PlaceFloats}
use Rattle.fields.specs.Fields.{column_form, rows_in}
use Rattle.items.specs.Items.{row_of}
use Rattle.reading.specs.Rules.{is_sheet}
use Rattle.reading.specs.Reading.{counted, read_refusal, number_of, refusal_of, items_in}
use Rattle.reading_holds.specs.Decided.{items_of}

-- ---- which texts are accepted
-- lines in column form that are a sheet
abbrev pub is_sheet_text : List ℕ → Bool
is_sheet_text text = column_form text && is_sheet (rows_in text)

-- a text is accepted if and only if it is a sheet; otherwise the number is the first of 9, 10 and 11 whose condition holds
pub record Refusals (text : List ℕ) : Type 0 where
  pub a_sheet : read_refusal text ≡ 0 → is_sheet_text text ≡ true
  pub accepted : is_sheet_text text ≡ true → read_refusal text ≡ 0
  pub nine : column_form text ≡ false → read_refusal text ≡ 9
  pub ten : column_form text ≡ true → counted (rows_in text) ≡ false → read_refusal text ≡ 10
  pub eleven : column_form text ≡ true → counted (rows_in text) ≡ true → is_sheet (rows_in text) ≡ false → read_refusal text ≡ 11

abbrev pub RefusalsClaim : Type 0
RefusalsClaim = (text : List ℕ) → Refusals text

-- and the refusal that is answered has this number
abbrev pub NumberClaim : Type 0
NumberClaim = (text : List ℕ) → (read_refusal text ≡ 0 → ⊥) → number_of (refusal_of (read_refusal text)) ≡ read_refusal text

-- ---- what is written is read
-- the bytes that the sheet's call counts as written, for the desk or the display, are accepted, and their items are the decision's
pub record ReadBack (to : SheetFor) (s : Situation) (xs ys : List Float) (sheet : List ℕ) (n : ℕ) : Type 0 where
  pub accepted : read_refusal (take n (sheet_after to s xs ys sheet)) ≡ 0
  pub items : items_in (take n (sheet_after to s xs ys sheet)) ≡ items_of (decision_of s xs ys)

-- whatever bytes were lent, for every situation whose floats are binary32 and whose sheet is written
abbrev pub ReadBackClaim : Type 0
ReadBackClaim = (to : SheetFor) (s : Situation) (xs ys : List Float) (sheet : List ℕ) (n : ℕ) → PlaceFloats s → sheet_answer to s xs ys (length sheet) ≡ Ok n → ReadBack to s xs ys sheet n

-- and so of all words, with no premise but that the sheet is written
abbrev pub WordsReadBackClaim : Type 0
WordsReadBackClaim = (to : SheetFor) (ws : List ℕ) (xs ys : List Float) (sheet : List ℕ) (n : ℕ) → sheet_answer to (situation_of ws) xs ys (length sheet) ≡ Ok n → ReadBack to (situation_of ws) xs ys sheet n

-- ---- what is read can be written
-- the header with their count and the lines of the items of an accepted text are that text, byte for byte
abbrev pub WrittenBackClaim : Type 0
WrittenBackClaim = (text : List ℕ) → read_refusal text ≡ 0 → lines_of (header (length (items_in text)) ∷ map row_of (items_in text)) ≡ text

-- ---- the longest
-- no accepted text has more than 166 lines, its header among them
abbrev pub LongestClaim : Type 0
LongestClaim = (text : List ℕ) → read_refusal text ≡ 0 → length (rows_in text) ≤ 166
