-- Which texts are accepted, and that none of them has more than 166 lines. Assumes nothing.
use mathlib.Core.Path.{◌≡◌, refl, sym, ap, ◌∙◌}
use mathlib.Core.Bool.{Bool, true, false, not, ◌&&◌, cond, true≢false}
use mathlib.Core.List.{List, [], ◌∷◌}
use Prim.Native.Nat.{ℕ}
use borrow.Author.Tests.{ne_eqb}
use lib.Dec.{eqb}
use lib.ListN.{length}
use Rattle.lists.proofs.Bools.{both, both_true, or_right}
use Rattle.lines.specs.declared.Row.{Row}
use Rattle.fields.specs.Fields.{column_form, rows_in}
use Rattle.reading.specs.Rules.{is_body, is_header, is_sheet}
use Rattle.reading.specs.Reading.{counted, read_refusal}
use Rattle.reading.proofs.Answers.{refusal_is, number_told, accepted_view}
use Rattle.reading.proofs.Longest.{longest}
use Rattle.reading_holds.specs.Claims.{RefusalsClaim, NumberClaim, LongestClaim}

-- ---- the header of a sheet
-- the parts of the test
pub record Header (r : Row) (n : ℕ) : Type 0 where
  pub kind : eqb r.kind 0 ≡ true
  pub side : eqb r.side 2 ≡ true
  pub number : eqb r.number n ≡ true
  pub value : eqb r.value 1 ≡ true

pub header_view : (r : Row) (n : ℕ) → is_header r n ≡ true → Header r n
header_view r n e =
    let a = both_true (eqb r.kind 0) (eqb r.side 2 && (eqb r.number n && eqb r.value 1)) e in
    let b = both_true (eqb r.side 2) (eqb r.number n && eqb r.value 1) a.1 in
    let c = both_true (eqb r.number n) (eqb r.value 1) b.1 in
    record { kind = a.0; side = b.0; number = c.0; value = c.1 }

counted_sheet : (rows : List Row) → is_sheet rows ≡ true → counted rows ≡ true
counted_sheet [] e = refl
counted_sheet (r ∷ rs) e = or_right (not (eqb r.kind 0)) (eqb r.number (length rs)) (header_view r (length rs) (both_true (is_header r (length rs)) (is_body rs) e).0).number

-- ---- refusals
-- the number, by the three tests
abbrev first : Bool → Bool → Bool → ℕ
first form count sheet = cond form (cond count (cond sheet 0 11) 10) 9

none_fails : (a b c : Bool) → (c ≡ true → b ≡ true) → (a && c) ≡ true → first a b c ≡ 0
none_fails true true true h e = refl
none_fails true false true h e = absurd (true≢false (sym (h refl)))
none_fails true b false h e = absurd (true≢false (sym e))
none_fails false b c h e = absurd (true≢false (sym e))

pub refusals : RefusalsClaim
refusals text = record {
  a_sheet = λ z. let a = accepted_view text z in both form sheet a.form a.sheet;
  accepted = λ e. refusal_is text ∙ none_fails form count sheet (counted_sheet (rows_in text)) e;
  nine = λ a. refusal_is text ∙ ap (λ (x : Bool). first x count sheet) a;
  ten = λ a b. refusal_is text ∙ ap (λ (x : Bool). first x count sheet) a ∙ ap (λ (x : Bool). first true x sheet) b;
  eleven = λ a b c. refusal_is text ∙ ap (λ (x : Bool). first x count sheet) a ∙ ap (λ (x : Bool). first true x sheet) b ∙ ap (first true true) c;
}
  where
    form : Bool
    form = column_form text

    count : Bool
    count = counted (rows_in text)

    sheet : Bool
    sheet = is_sheet (rows_in text)

pub number : NumberClaim
number text z = number_told text _ (ne_eqb (read_refusal text) 0 z) refl

-- ---- the longest
pub longest_text : LongestClaim
longest_text text z = longest (rows_in text) (accepted_view text z).sheet
