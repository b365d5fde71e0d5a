-- The lines of a decision but those of its place have kinds from 1 to 6. Assumes nothing.
use mathlib.Core.Path.{◌≡◌, refl}
use mathlib.Core.Bool.{Bool, true, false}
use mathlib.Core.List.{List, [], ◌∷◌, ◌++◌}
use Prim.Native.Nat.{ℕ, zero, suc, ◌+◌, ◌≤◌}
use native.Mathlib.Omega.{arith}
use lib.Dec.{ltb}
use lib.ListN.{length, get_or}
use Rattle.lists.specs.Gather.{flat_to, only_if}
use Rattle.lists.specs.Table.{table}
use Rattle.game.specs.Codes.{side_code, judgment_code, judgment_side}
use Rattle.game.specs.declared.BallJudgment.{BallJudgment}
use Rattle.game.specs.declared.Decision.{Decision}
use Rattle.game.specs.declared.KickingPlayer.{KickingPlayer}
use Rattle.game.specs.declared.PlayerList.{PlayerList}
use Rattle.game.specs.declared.Side.{Side}
use Rattle.game.specs.declared.Side.TheVariants.{Home, Away}
use Rattle.lines.specs.declared.Row.{Row}
use Rattle.sheet.specs.Rows.{row, verdict_code, verdict_row, verdict_rows, numbers_of, list_rows, from_one, none, kicker_rows, ball_rows, place_rows, judged_rows, rows_of}
use Rattle.game.specs.declared.Positioning.{Positioning}
use Rattle.std.specs.Prelude.{Option, None, Some}

-- every line has a kind up to 6
pub data Low : List Row → Type 0 where
  no_line : Low []
  one_line : {r : Row} {rs : List Row} → r.kind ≤ 6 → Low rs → Low (r ∷ rs)

low_append : {k l : List Row} → Low k → Low l → Low (k ++ l)
low_append no_line hl = hl
low_append (one_line h hk) hl = one_line h (low_append hk hl)

low_flat : (n : ℕ) (f : ℕ → List Row) → ((i : ℕ) → Low (f i)) → Low (flat_to n f)
unfolding flat_to
low_flat zero f h = no_line
low_flat (suc n) f h = low_append (low_flat n f h) (h n)

low_only : (b : Bool) (r : Row) → r.kind ≤ 6 → Low (only_if b r)
low_only true r h = one_line h no_line
low_only false r h = no_line

low_table : (n : ℕ) (f : ℕ → Row) → ((i : ℕ) → (f i).kind ≤ 6) → Low (table n f)
low_table zero f h = no_line
low_table (suc n) f h = one_line (h 0) (low_table n (λ k. f (suc k)) (λ i. h (suc i)))

verdicts_low : (side : Side) (vs : List Positioning) → Low (verdict_rows side vs)
unfolding verdict_rows
verdicts_low side vs = low_flat 20 (verdict_row (side_code side) vs) (λ i. low_only (ltb 0 (verdict_code vs i)) (row 1 (side_code side) (i + 1) (verdict_code vs i)) (omega arith))

list_low : (kind : ℕ) (side : Side) (value : ℕ → ℕ) (l : PlayerList) → kind ≤ 6 → Low (list_rows kind side value l)
unfolding list_rows
list_low kind side value l h = low_table (length (numbers_of l)) (λ k. row kind (side_code side) (get_or (numbers_of l) k 0) (value k)) (λ i. h)

kicker_low : (k : Option KickingPlayer) → Low (kicker_rows k)
kicker_low None = no_line
kicker_low (Some k) = one_line {r = row 3 (side_code k.side) k.number 0} (omega arith) no_line

ball_low : (j : BallJudgment) → Low (ball_rows j)
unfolding ball_rows
ball_low j = low_only (ltb 0 (judgment_code j)) (row 6 (judgment_side j) (judgment_code j) 0) (omega arith)

pub rows_parted : (d : Decision) → rows_of d ≡ judged_rows d ++ place_rows d.place
unfolding rows_of
rows_parted d = refl

pub judged_low : (d : Decision) → Low (judged_rows d)
judged_low d =
    low_append (low_append (low_append (low_append (low_append (low_append (low_append (low_append (low_append
    (verdicts_low Home d.home.verdicts)
    (verdicts_low Away d.away.verdicts))
    (list_low 2 Home from_one d.home.excess (omega arith)))
    (list_low 2 Away from_one d.away.excess (omega arith)))
    (kicker_low d.kicker))
    (list_low 4 Home none d.home.leaving (omega arith)))
    (list_low 4 Away none d.away.leaving (omega arith)))
    (list_low 5 Home none d.home.moved (omega arith)))
    (list_low 5 Away none d.away.moved (omega arith)))
    (ball_low d.ball)
