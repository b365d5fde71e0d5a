-- The lines of the items of a sheet, one after the other. Assumes nothing.
use mathlib.Core.Path.{◌≡◌, refl, sym, ap, ◌∙◌}
use mathlib.Core.Bool.{Bool, true, cond}
use mathlib.Core.List.{List, [], ◌∷◌, ◌++◌, map, append_assoc, append-nil}
use Prim.Native.Nat.{ℕ, zero, suc, ◌+◌, ◌-◌, ◌*◌, ◌≤◌, ◌<◌}
use native.Mathlib.Nat.{not-suc-le-zero, le_of_suc-le-suc}
use native.Mathlib.Omega.{arith}
use borrow.Author.Tests.{eq-eqb, ne_eqb}
use lib.ListN.{length, take, length-append}
use Rattle.std.specs.Prelude.{Ok, Err}
use Rattle.lists.proofs.Bools.{both_true}
use Rattle.replies.specs.Replies.{refused_line}
use Rattle.lines.specs.declared.Row.{Row}
use Rattle.fields.specs.Fields.{rows_in}
use Rattle.fields.proofs.Texts.{SmallRows, one_row, text_written}
use Rattle.items.specs.Items.{is_item, row_of, item_of}
use Rattle.items.specs.declared.Item.{Item}
use Rattle.items.proofs.View.{item_number}
use Rattle.items.proofs.Back.{row_back}
use Rattle.reading.specs.Rules.{every}
use Rattle.reading.specs.Reading.{read_refusal, number_of, refusal_of, following, items_in, sheet_read, nth_item, item_read}
use Rattle.reading.specs.declared.NoSheet.{NoSheet}
use Rattle.reading.proofs.Answers.{refusal_read, count_read, accepted_view, body_items, small_following}
use Rattle.item_lines.specs.ItemLines.{item_line}
use Rattle.item_lines.proofs.ItemLines.{item_line_few}
use Rattle.desk.specs.Desk.{answer, told, item_lines, read_printed, found_line}

-- ---- lines one after the other
pub lines_next : (k : ℕ) (is : List Item) → k < length is → item_lines (take (suc k) is) ≡ item_lines (take k is) ++ found_line (Ok (nth_item k is))
unfolding item_lines nth_item
lines_next k [] h = absurd (not-suc-le-zero h)
lines_next zero (i ∷ is) h = append-nil (item_line i)
lines_next (suc k) (i ∷ is) h = ap (λ (t : List ℕ). item_line i ++ t) (lines_next k is (le_of_suc-le-suc h)) ∙ sym (append_assoc (item_line i) (item_lines (take k is)) (found_line (Ok (nth_item k is))))

pub lines_none : (is : List Item) → item_lines (take 0 is) ≡ []
unfolding item_lines
lines_none is = refl

-- each of them has at most 100 bytes
pub data Short : List Item → Type 0 where
  no_item : Short []
  one_item : {i : Item} {is : List Item} → length (item_line i) ≤ 100 → Short is → Short (i ∷ is)

pub lines_short : (k : ℕ) (is : List Item) → Short is → length (item_lines (take k is)) ≤ 100 * k
unfolding item_lines
lines_short zero is hs = omega arith
lines_short (suc k) [] hs = omega arith
lines_short (suc k) (i ∷ is) (one_item h hs) = omega (arith, h, lines_short k is hs, length-append (item_line i) (item_lines (take k is)))

-- ---- what is read
module _ (text : List ℕ) where
  -- the refusal is told
  pub read_refused : (r : NoSheet) → Err r ≡ sheet_read text → told (refused_line (number_of r)) ≡ read_printed text
  unfolding read_printed
  read_refused r e =
      let h = refusal_read text r e in
      ap (λ (n : ℕ). told (refused_line n)) h.1
      ∙ sym (ap (λ (b : Bool). cond b (answer (item_lines (items_in text))) (told (refused_line (read_refusal text)))) (ne_eqb (read_refusal text) 0 h.0))

  -- the items are answered, and this is their count
  pub record Read (n : ℕ) : Type 0 where
    pub none : read_refusal text ≡ 0
    pub count : n ≡ length (items_in text)
    pub printed : answer (item_lines (items_in text)) ≡ read_printed text

  pub read_lines : (n : ℕ) → Ok n ≡ sheet_read text → Read n
  unfolding read_printed
  read_lines n e =
      let h = count_read text n e in record {
        none = h.0;
        count = h.1;
        printed = sym (ap (λ (b : Bool). cond b (answer (item_lines (items_in text))) (told (refused_line (read_refusal text)))) (eq-eqb (read_refusal text) 0 h.0));
      }

  -- the item of a line
  pub item_read_holds : (k : ℕ) → read_refusal text ≡ 0 → item_read text (suc k) ≡ Ok (nth_item k (items_in text))
  unfolding item_read
  item_read_holds k e = ap (λ (b : Bool). cond b (Ok (nth_item k (items_in text))) (Err (refusal_of (read_refusal text)))) (eq-eqb (read_refusal text) 0 e)

-- ---- the lines of the items of an accepted text are short
short_items : (rs : List Row) → SmallRows rs → every is_item rs ≡ true → Short (map item_of rs)
unfolding every
short_items [] small e = no_item
short_items (r ∷ rs) (one_row fit small) e =
    let here = both_true (is_item r) (every is_item rs) e in
    let number : (row_of (item_of r)).number ≡ r.number = ap (λ (t : Row). t.number) (row_back r fit.value_small here.0) in
    one_item (item_line_few (item_of r) (omega (arith, number, item_number r here.0))) (short_items rs small here.1)

pub text_short : (text : List ℕ) → read_refusal text ≡ 0 → Short (items_in text)
unfolding items_in
text_short text e = let a = accepted_view text e in short_items (following (rows_in text)) (small_following (rows_in text) (text_written text a.form).1) (body_items (rows_in text) a.sheet)
