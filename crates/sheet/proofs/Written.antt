-- Lines written one after the other from a place of the sheet on. Assumes nothing.
use mathlib.Core.Path.{◌≡◌, sym, ap, subst, ◌∙◌}
use mathlib.Core.List.{List, [], ◌∷◌, ◌++◌, append-nil}
use Prim.Native.Nat.{ℕ, zero, suc, ◌+◌, ◌*◌, ◌≤◌, ◌<◌}
use native.Mathlib.Nat.{le_antisymm, not-suc-le-zero, le_of_suc-le-suc}
use native.Mathlib.Numerals.{add-one}
use native.Mathlib.Omega.{arith}
use lib.ListN.{length, length-append}
use Rattle.lists.specs.Gather.{flat_to}
use Rattle.lists.proofs.Gather.{flat_le, length_flat}
use Rattle.lines.specs.declared.Row.{Row}
use Rattle.lines.specs.Line.{line_of, lines_of}
use Rattle.lines.specs.Over.{over}
use Rattle.lines.proofs.Over.{over_none, over_then, Stage, stage_none, stage_next}
use Rattle.lines.proofs.Lines.{length_line, length_lines, lines_append}
use Rattle.sheet.specs.Blocks.{block_row, block_rows, Few, block_at, rows_to, all_rows}
use Rattle.sheet.specs.declared.blocks.Block.{Block}
use Rattle.sheet.specs.Rows.{place_rows}
use Rattle.game.specs.declared.Placement.{Placement}
use Rattle.game.specs.declared.Placement.TheVariants.{NoPlace, BallAt, PlayerAt}
use Rattle.sheet.proofs.BlockLaws.{block_count, table_lines}

module _ (b : Block) (at : ℕ) (s : List ℕ) where
  -- the bytes of its line k
  abbrev bytes_at : ℕ → List ℕ
  bytes_at k = line_of (block_row b k)

  pub lines_none : s ≡ over at (flat_to 0 bytes_at) s
  unfolding flat_to
  lines_none = over_none at s

  -- a turn
  pub lines_turn : (i : ℕ) (cur next : List ℕ) → at + 45 * i ≤ length s → cur ≡ over at (flat_to i bytes_at) s → next ≡ over (at + 45 * i) (bytes_at i) cur → next ≡ over at (flat_to (i + 1) bytes_at) s
  unfolding flat_to
  lines_turn i cur next room e p =
      p
      ∙ ap (over (at + 45 * i) (bytes_at i)) e
      ∙ over_then at (at + 45 * i) (flat_to i bytes_at) (bytes_at i) s (ap (λ (k : ℕ). at + k) (sym (length_flat bytes_at 45 (λ k. length_line (block_row b k)) i))) room
      ∙ ap (λ (k : ℕ). over at (flat_to k bytes_at) s) (sym (add-one i))

  -- the loop's end
  pub lines_done : (i : ℕ) (cur : List ℕ) → i ≤ b.count → b.count ≤ i → cur ≡ over at (flat_to i bytes_at) s → cur ≡ over at (lines_of (block_rows b)) s
  unfolding block_rows
  lines_done i cur low high e =
      e ∙ ap (λ (k : ℕ). over at (flat_to k bytes_at) s) (le_antisymm low high) ∙ ap (λ (t : List ℕ). over at t s) (table_lines b.count (block_row b))

-- more lines
pub rows_next : (at n m : ℕ) (s cur next : List ℕ) (a b : List Row) → Stage at s (lines_of a) cur n → n ≤ length s → next ≡ over n (lines_of b) cur → m ≡ n + 45 * length b → length next ≡ length cur → Stage at s (lines_of (a ++ b)) next m
rows_next at n m s cur next a b e room p q l =
    subst (λ (t : List ℕ). Stage at s t next m) (sym (lines_append a b)) (stage_next (lines_of b) next m e room p (q ∙ ap (λ (k : ℕ). n + k) (sym (length_lines b))) l)

-- one more line
pub row_next : (at n : ℕ) (s cur next : List ℕ) (a : List Row) (r : Row) → Stage at s (lines_of a) cur n → n ≤ length s → next ≡ over n (line_of r) cur → length next ≡ length cur → Stage at s (lines_of (a ++ (r ∷ []))) next (n + 45)
unfolding lines_of
row_next at n s cur next a r e room p l =
    rows_next at n (n + 45) s cur next a (r ∷ []) e room (p ∙ ap (λ (t : List ℕ). over n t cur) (sym (append-nil (line_of r)))) (omega arith) l

-- before any line
pub rows_none : (at : ℕ) (s : List ℕ) → Stage at s (lines_of []) s at
unfolding lines_of
rows_none at s = stage_none at s

-- ---- the lines of the first i blocks, and the next block's
module _ (bs : List Block) (i : ℕ) (h : i < 10) where
  rows_turn : rows_to bs i ++ block_rows (block_at bs i) ≡ rows_to bs (i + 1)
  unfolding flat_to
  rows_turn = ap (rows_to bs) (sym (add-one i))

  pub blocks_count : length (rows_to bs (i + 1)) ≡ length (rows_to bs i) + (block_at bs i).count
  blocks_count = omega (arith, ap length rows_turn, length-append (rows_to bs i) (block_rows (block_at bs i)), block_count (block_at bs i))

  -- where all of them have room, the next one has, and after it is written one more block is
  pub block_fits : (at n : ℕ) (s cur : List ℕ) → Stage at s (lines_of (rows_to bs i)) cur n → at + 45 * length (all_rows bs) ≤ length s → n + 45 * (block_at bs i).count ≤ length cur
  unfolding all_rows
  block_fits at n s cur e room =
      omega (arith, room, flat_le (λ k. block_rows (block_at bs k)) i 10 h, block_count (block_at bs i), e.end, e.long, length_lines (rows_to bs i))

  pub block_next : (at n m : ℕ) (s cur next : List ℕ) → Stage at s (lines_of (rows_to bs i)) cur n → at + 45 * length (all_rows bs) ≤ length s → next ≡ over n (lines_of (block_rows (block_at bs i))) cur
      → m ≡ n + 45 * (block_at bs i).count → length next ≡ length cur → Stage at s (lines_of (rows_to bs (i + 1))) next m
  block_next at n m s cur next e room p q l =
      subst (λ (r : List Row). Stage at s (lines_of r) next m) rows_turn
      (rows_next at n m s cur next (rows_to bs i) (block_rows (block_at bs i)) e (omega (arith, block_fits at n s cur e room, e.long)) p (omega (arith, q, block_count (block_at bs i))) l)

-- none of them has more than 20
pub few_at : (bs : List Block) (i : ℕ) → Few bs → i < length bs → (block_at bs i).count ≤ 20
few_at [] i f h = absurd (not-suc-le-zero h)
few_at (b ∷ bs) zero f h = f.0
few_at (b ∷ bs) (suc i) f h = few_at bs i f.1 (le_of_suc-le-suc h)

-- the loop's end
pub rows_all : (bs : List Block) (i : ℕ) → i ≤ 10 → 10 ≤ i → rows_to bs i ≡ all_rows bs
unfolding all_rows
rows_all bs i low high = ap (rows_to bs) (le_antisymm low high)

-- ---- the lines of a place
-- a place has three lines at most
pub place_few : (p : Placement) → length (place_rows p) ≤ 3
unfolding place_rows
place_few NoPlace = omega arith
place_few (BallAt x y z) = omega arith
place_few (PlayerAt side number x y theta) = omega arith
