-- What the writer of a decision answers and leaves, by the definitions of the sheet. Assumes nothing.
use mathlib.Core.Path.{◌≡◌, refl, sym, ap, ◌∙◌}
use mathlib.Core.List.{List, [], ◌++◌, append_assoc}
use Prim.Native.Nat.{ℕ, ◌+◌, ◌*◌, ◌≤◌, ◌<◌}
use native.Mathlib.Omega.{arith}
use lib.ListN.{length, length-append}
use Rattle.std.specs.Prelude.{Ok, Err}
use Rattle.lists.proofs.Fronted.{into_short, into_fits}
use Rattle.game.specs.declared.Decision.{Decision}
use Rattle.lines.specs.declared.Row.{Row}
use Rattle.lines.specs.Line.{line_of, lines_of}
use Rattle.lines.specs.Over.{over}
use Rattle.lines.proofs.Lines.{length_line, length_lines, lines_append}
use Rattle.lines.proofs.Over.{over_front, stage_none, stage_next}
use Rattle.refusal.specs.declared.Refusal.TheVariants.{SheetRoom}
use Rattle.sheet.specs.Blocks.{all_rows}
use Rattle.sheet.specs.declared.blocks.Block.{Block}
use Rattle.sheet.specs.Rows.{header, place_rows, rows_of, sheet_rows}
use Rattle.sheet.specs.Sheet.{text_of, decision_answer, decision_sheet}
use Rattle.sheet.proofs.Texts.{text_short, text_fits}
use Rattle.sheet.proofs.Written.{place_few}

-- the bytes of a decision's text
pub text_long : (d : Decision) → length (text_of d) ≡ 45 * length (rows_of d) + 45
unfolding text_of sheet_rows
text_long d = length_lines (sheet_rows d) ∙ omega arith

-- ---- how many lines there are: those of the blocks and those of the place
pub lines_counted : (d : Decision) (blocks : List Block) (n k : ℕ) → n ≡ length (all_rows blocks) → k ≡ length (place_rows d.place) → all_rows blocks ++ place_rows d.place ≡ rows_of d → n + k ≡ length (rows_of d)
lines_counted d blocks n k e f all = omega (arith, e, f, length-append (all_rows blocks) (place_rows d.place), ap length all)

pub lines_few : (d : Decision) (n k : ℕ) → n ≤ 200 → k ≡ length (place_rows d.place) → n + k ≤ 203
lines_few d n k h f = omega (arith, h, f, place_few d.place)

-- ---- the answer
answer_short : (d : Decision) (lent : ℕ) → lent < length (text_of d) → decision_answer d lent ≡ Err SheetRoom
unfolding decision_answer
answer_short d lent h = sym (text_short [] 7 (text_of d) refl refl lent h)

pub answer_fits : (d : Decision) (lent : ℕ) → length (text_of d) ≤ lent → decision_answer d lent ≡ Ok (length (text_of d))
unfolding decision_answer
answer_fits d lent h = sym (text_fits [] 7 (text_of d) refl refl lent h)

-- ---- what the code leaves
-- too few bytes were lent
pub decision_refused : (d : Decision) (n : ℕ) (s : List ℕ) → n ≡ length (rows_of d) → length s < 45 * n + 45 → (Err SheetRoom ≡ decision_answer d (length s)) × (s ≡ decision_sheet d s)
decision_refused d n s e h =
    let short : length s < length (text_of d) = omega (arith, e, text_long d) in
    (sym (answer_short d (length s) short), sym (into_short (text_of d) s short))

-- the header's line, and the lines that follow
text_parts : (d : Decision) (n : ℕ) (a b : List Row) → n ≡ length (rows_of d) → a ++ b ≡ rows_of d → (line_of (header n) ++ lines_of a) ++ lines_of b ≡ text_of d
unfolding text_of sheet_rows lines_of
text_parts d n a b e q =
    append_assoc (line_of (header n)) (lines_of a) (lines_of b)
    ∙ ap (λ (t : List ℕ). line_of (header n) ++ t) (sym (lines_append a b) ∙ ap lines_of q)
    ∙ ap (λ (k : ℕ). line_of (header k) ++ lines_of (rows_of d)) e

-- the header, the lines a up to a place, and the lines b after it were written
pub decision_written : (d : Decision) (n end : ℕ) (s cur mid next : List ℕ) (a b : List Row) → n ≡ length (rows_of d) → a ++ b ≡ rows_of d → 45 * n + 45 ≤ length s → end ≡ 45 + 45 * length a
    → cur ≡ over 0 (line_of (header n)) s → length cur ≡ length s → mid ≡ over 45 (lines_of a) cur → length mid ≡ length cur → next ≡ over end (lines_of b) mid → length next ≡ length mid
    → (Ok (45 * n + 45) ≡ decision_answer d (length s)) × (next ≡ decision_sheet d s)
decision_written d n end s cur mid next a b e q room far p lp r lr t lt =
    let all : length (text_of d) ≡ 45 * n + 45 = text_long d ∙ ap (λ (k : ℕ). 45 * k + 45) (sym e) in
    let fits : length (text_of d) ≤ length s = omega (arith, all) in
    let count : length a + length b ≡ n = sym (length-append a b) ∙ ap length q ∙ sym e in
    let one = stage_next (line_of (header n)) cur 45 (stage_none 0 s) (omega arith) p (omega (arith, length_line (header n))) lp in
    let two = stage_next (lines_of a) mid end one (omega arith) r (omega (arith, far, length_lines a)) lr in
    let three = stage_next (lines_of b) next (end + length (lines_of b)) two (omega (arith, far, count)) t refl lt in (
      ap Ok (sym all) ∙ sym (answer_fits d (length s) fits),
      three.written ∙ ap (λ (u : List ℕ). over 0 u s) (text_parts d n a b e q) ∙ over_front (text_of d) s ∙ sym (into_fits (text_of d) s fits),
    )
