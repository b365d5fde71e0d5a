-- What the loop that makes the lines of all items keeps. Assumes nothing.
use mathlib.Core.Path.{◌≡◌, sym, ap, ◌∙◌}
use mathlib.Core.List.{List, [], ◌++◌}
use Prim.Native.Nat.{ℕ, ◌+◌, ◌≤◌, ◌<◌}
use native.Mathlib.Numerals.{add-one}
use native.Mathlib.Omega.{arith}
use lib.ListN.{length, take, replicate, length-replicate}
use lib.Seq.{take_all}
use Rattle.std.specs.Prelude.{Option, Result, Ok}
use Rattle.text.specs.Pushed.{pushed}
use Rattle.text.proofs.Pushed.{pushed_none, pushed_long, pushed_whole, next_piece}
use Rattle.replies.specs.Replies.{line_in, written_in}
use Rattle.replies.proofs.Pieces.{text_taken}
use Rattle.items.specs.declared.Item.{Item}
use Rattle.reading.specs.Reading.{items_in, sheet_read, nth_item, item_read}
use Rattle.reading.specs.declared.NoSheet.{NoSheet}
use Rattle.reading.proofs.Answers.{few_lines}
use Rattle.item_lines.specs.ItemLines.{item_line}
use Rattle.item_lines.proofs.ItemLines.{item_line_fits}
use Rattle.desk.specs.Desk.{item_lines, found_line}
use Rattle.desk.proofs.Items.{lines_next, lines_none, lines_short, read_lines, item_read_holds, text_short}

-- a line that has room is at the front of the bytes
pub line_taken : (item : Item) (cur : List ℕ) (n : ℕ) → n ≡ written_in (item_line item) (replicate 128 0) → cur ≡ line_in (item_line item) (replicate 128 0) → take n cur ≡ item_line item
line_taken item cur n e f = text_taken (item_line item) (replicate 128 0) cur n (omega (arith, item_line_fits item, length-replicate {A = ℕ} 128 0)) e f

-- the lines are those of the first i items
abbrev pub Done : List ℕ → ℕ → List ℕ → Type 0
Done text i lines = lines ≡ pushed 16500 [] (item_lines (take i (items_in text)))

-- before the first
pub done_none : (text lines : List ℕ) → lines ≡ [] → Done text 0 lines
done_none text lines e = e ∙ pushed_none 16500 [] (omega arith) ∙ ap (pushed 16500 []) (sym (lines_none (items_in text)))

-- they are no more than there is room for
pub done_long : (text : List ℕ) (i : ℕ) (lines : List ℕ) → Done text i lines → length lines ≤ 16500
done_long text i lines done = omega (arith, ap length done, pushed_long 16500 [] (item_lines (take i (items_in text))))

-- one more
pub done_next : (text lines : List ℕ) (count i : ℕ) (found : Result (Option Item) NoSheet) → Ok count ≡ sheet_read text → i < count → found ≡ item_read text (i + 1) → Done text i lines → (next : List ℕ) → next ≡ pushed 16500 lines (found_line found) → Done text (i + 1) next
done_next text lines count i found told here read done next e =
    let r = read_lines text count told in
    let item : found ≡ Ok (nth_item i (items_in text)) = read ∙ ap (item_read text) (add-one i) ∙ item_read_holds text i r.none in
    let more : item_lines (take i (items_in text)) ++ found_line found ≡ item_lines (take (i + 1) (items_in text)) =
    ap (λ (f : Result (Option Item) NoSheet). item_lines (take i (items_in text)) ++ found_line f) item
    ∙ sym (lines_next i (items_in text) (omega (arith, here, r.count)))
    ∙ ap (λ (k : ℕ). item_lines (take k (items_in text))) (sym (add-one i)) in
    next_piece 16500 _ _ (found_line found) done e ∙ ap (pushed 16500 []) more

-- the lines of all items are at most 16,500 bytes
all_short_holds : (text : List ℕ) (count : ℕ) → Ok count ≡ sheet_read text → length (item_lines (items_in text)) ≤ 16500
all_short_holds text count told =
    let r = read_lines text count told in
    let all : length (item_lines (take count (items_in text))) ≡ length (item_lines (items_in text)) = ap (λ (is : List Item). length (item_lines is)) (take_all count (items_in text) (omega (arith, r.count))) in
    omega (arith, all, few_lines text count told, lines_short count (items_in text) (text_short text r.none))

-- after the last
pub done_all : (text lines : List ℕ) (count i : ℕ) → Ok count ≡ sheet_read text → count ≤ i → Done text i lines → lines ≡ item_lines (items_in text)
done_all text lines count i told h done =
    let all : take i (items_in text) ≡ items_in text = take_all i (items_in text) (omega (arith, h, (read_lines text count told).count)) in
    done ∙ ap (λ (is : List Item). pushed 16500 [] (item_lines is)) all ∙ pushed_whole 16500 (item_lines (items_in text)) (all_short_holds text count told)
