-- The lines of blocks: one more at the end, those of a list, and the bytes of all. Assumes nothing.
use mathlib.Core.Path.{◌≡◌, refl, sym, ap, ap₂, ◌∙◌}
use mathlib.Core.Bool.{Bool, true, false}
use mathlib.Core.List.{List, [], ◌∷◌, ◌++◌, append-nil}
use Prim.Native.Nat.{ℕ, zero, suc, ◌<◌, min}
use native.Mathlib.Numerals.{add-one}
use native.Mathlib.Omega.{arith}
use lib.ListN.{length, get_or, set, length-take}
use lib.Seq.{get_or-set_same, get_or-set_other, get_or-take}
use Rattle.lists.specs.Gather.{flat_to, only_if}
use Rattle.lists.specs.Put.{count_if}
use Rattle.lists.specs.Table.{table}
use Rattle.lists.proofs.Maps.{table_last}
use Rattle.lists.proofs.Table.{table_same, table_at, length_table}
use Rattle.game.specs.declared.PlayerList.{PlayerList}
use Rattle.game.specs.declared.Side.{Side}
use Rattle.game.specs.Codes.{side_code}
use Rattle.lines.specs.declared.Row.{Row}
use Rattle.lines.specs.Line.{line_of, lines_of}
use Rattle.lines.proofs.Lines.{lines_append}
use Rattle.sheet.specs.Rows.{row, list_rows, numbers_of, from_one}
use Rattle.sheet.specs.Blocks.{block_row, block_rows}
use Rattle.sheet.specs.declared.blocks.Block.{Block}

-- the bytes of a table of lines
pub table_lines : (n : ℕ) (f : ℕ → Row) → flat_to n (λ k. line_of (f k)) ≡ lines_of (table n f)
unfolding flat_to lines_of
table_lines zero f = refl
table_lines (suc n) f =
    ap (λ (t : List ℕ). t ++ line_of (f n)) (table_lines n f)
    ∙ ap (λ (t : List ℕ). lines_of (table n f) ++ t) (sym (append-nil (line_of (f n))))
    ∙ sym (lines_append (table n f) (f n ∷ []))
    ∙ ap lines_of (sym (table_last f n))

-- a block's number of lines
pub block_count : (b : Block) → length (block_rows b) ≡ b.count
unfolding block_rows
block_count b = length_table b.count (block_row b)

-- a number and a value stored after the first n lines: one line more, or what was stored does not count
module _ (kind side n x y : ℕ) (ns vs : List ℕ) (hn : n < length ns) (hv : n < length vs) where
  abbrev row_before : ℕ → Row
  row_before k = row kind side (get_or ns k 0) (get_or vs k 0)

  abbrev row_after : ℕ → Row
  row_after k = row kind side (get_or (set ns n x) k 0) (get_or (set vs n y) k 0)

  first_kept : table n row_after ≡ table n row_before
  first_kept =
      table_same n row_after row_before (λ k h. ap₂ (row kind side) (get_or-set_other ns n k x 0 (λ e. omega arith)) (get_or-set_other vs n k y 0 (λ e. omega arith)))

  pub block_grown : (b : Bool) (m : ℕ) → m ≡ count_if b n → table m row_after ≡ table n row_before ++ only_if b (row kind side x y)
  block_grown true m e =
      ap (λ (k : ℕ). table k row_after) (e ∙ add-one n)
      ∙ table_last row_after n
      ∙ ap₂ (λ (t : List Row) (r : Row). t ++ (r ∷ [])) first_kept (ap₂ (row kind side) (get_or-set_same ns n x 0 hn) (get_or-set_same vs n y 0 hv))
  block_grown false m e = ap (λ (k : ℕ). table k row_after) e ∙ first_kept ∙ sym (append-nil (table n row_before))

-- the lines of a list, as a block has them, where its values follow a rule
pub list_held : (kind count : ℕ) (side : Side) (l : PlayerList) (values : List ℕ) (value : ℕ → ℕ) → length l.numbers ≡ 20 → count ≡ min l.count 20 → ((k : ℕ) → k < 20 → get_or values k 0 ≡ value k)
    → table count (λ k. row kind (side_code side) (get_or l.numbers k 0) (get_or values k 0)) ≡ list_rows kind side value l
unfolding list_rows
list_held kind count side l values value long e follow =
    let same : count ≡ length (numbers_of l) = e ∙ ap (min l.count) (sym long) ∙ sym (length-take l.count l.numbers) in
    table_same count (λ k. row kind (side_code side) (get_or l.numbers k 0) (get_or values k 0)) (λ k. row kind (side_code side) (get_or (numbers_of l) k 0) (value k))
    (λ k h. ap₂ (row kind (side_code side)) (sym (get_or-take l.count l.numbers k 0 (omega (arith, e)))) (follow k (omega (arith, e))))
    ∙ ap (λ (n : ℕ). table n (λ k. row kind (side_code side) (get_or (numbers_of l) k 0) (value k))) same

-- the ranks, from 1
abbrev ranks : List ℕ
ranks = 1 ∷ 2 ∷ 3 ∷ 4 ∷ 5 ∷ 6 ∷ 7 ∷ 8 ∷ 9 ∷ 10 ∷ 11 ∷ 12 ∷ 13 ∷ 14 ∷ 15 ∷ 16 ∷ 17 ∷ 18 ∷ 19 ∷ 20 ∷ []

pub ranks_told : (k : ℕ) → k < 20 → get_or ranks k 0 ≡ from_one k
ranks_told k h = table_at 20 from_one 0 k h
