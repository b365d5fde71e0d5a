-- The text of a decision whose lists have at most 20 players has at most 7,470 bytes: eight lists, a kicker, a ball judgment, three lines of a place and the header. Assumes nothing.
use mathlib.Core.Path.{◌≡◌}
use mathlib.Core.Bool.{Bool, true, false}
use mathlib.Core.List.{List}
use Prim.Native.Nat.{ℕ, zero, suc, ◌+◌, ◌≤◌}
use native.Mathlib.Omega.{arith}
use lib.Dec.{ltb}
use lib.ListN.{length, get_or, length-append, length-take}
use Rattle.lists.specs.Gather.{flat_to, only_if}
use Rattle.lists.proofs.Table.{length_table}
use Rattle.game.specs.declared.PlayerList.{PlayerList}
use Rattle.game.specs.declared.Side.{Side}
use Rattle.game.specs.declared.Side.TheVariants.{Home, Away}
use Rattle.game.specs.declared.BallJudgment.{BallJudgment}
use Rattle.game.specs.Codes.{side_code, judgment_code, judgment_side}
use Rattle.game.specs.declared.Decision.{Decision}
use Rattle.game.specs.declared.SideDecision.{SideDecision}
use Rattle.game.specs.declared.KickingPlayer.{KickingPlayer}
use Rattle.sheet.specs.Rows.{row, verdict_code, verdict_row, verdict_rows, numbers_of, list_rows, from_one, none, kicker_rows, ball_rows, place_rows, rows_of}
use Rattle.sheet.specs.Sheet.{text_of}
use Rattle.sheet.proofs.Answers.{text_long}
use Rattle.sheet.proofs.Written.{place_few}
use Rattle.game.specs.declared.Positioning.{Positioning}
use Rattle.std.specs.Prelude.{Option, None, Some}

-- ---- the lines of each kind
one_at_most : {A : Type 0} (b : Bool) (x : A) → length (only_if b x) ≤ 1
one_at_most true x = omega arith
one_at_most false x = omega arith

verdicts_few : (side : Side) (v : List Positioning) → length (verdict_rows side v) ≤ 20
unfolding verdict_rows flat_to
verdicts_few side v = go 20
  where
    go : (n : ℕ) → length (flat_to n (verdict_row (side_code side) v)) ≤ n
    go zero = omega arith
    go (suc n) = omega (arith, go n, one_at_most (ltb 0 (verdict_code v n)) (row 1 (side_code side) (n + 1) (verdict_code v n)), length-append (flat_to n (verdict_row (side_code side) v)) (verdict_row (side_code side) v n))

list_few : (kind : ℕ) (side : Side) (value : ℕ → ℕ) (l : PlayerList) → l.count ≤ 20 → length (list_rows kind side value l) ≤ 20
unfolding list_rows
list_few kind side value l h = omega (arith, length_table (length (numbers_of l)) (λ k. row kind (side_code side) (get_or (numbers_of l) k 0) (value k)), length-take l.count l.numbers, h)

kicker_few : (k : Option KickingPlayer) → length (kicker_rows k) ≤ 1
kicker_few None = omega arith
kicker_few (Some k) = omega arith

ball_few : (j : BallJudgment) → length (ball_rows j) ≤ 1
unfolding ball_rows
ball_few j = one_at_most (ltb 0 (judgment_code j)) (row 6 (judgment_side j) (judgment_code j) 0)

-- ---- all of them, of a decision whose lists have at most 20 players
pub record Short (d : SideDecision) : Type 0 where
  pub excess : d.excess.count ≤ 20
  pub leaving : d.leaving.count ≤ 20
  pub moved : d.moved.count ≤ 20

-- how many lines there are, kind by kind
rows_count : (d : Decision)
    → length (rows_of d)
    ≡ length (verdict_rows Home d.home.verdicts)
    + length (verdict_rows Away d.away.verdicts)
    + length (list_rows 2 Home from_one d.home.excess)
    + length (list_rows 2 Away from_one d.away.excess)
    + length (kicker_rows d.kicker)
    + length (list_rows 4 Home none d.home.leaving)
    + length (list_rows 4 Away none d.away.leaving)
    + length (list_rows 5 Home none d.home.moved)
    + length (list_rows 5 Away none d.away.moved)
    + length (ball_rows d.ball)
    + length (place_rows d.place)
unfolding rows_of
rows_count d = simp length-append

rows_few : (d : Decision) → Short d.home → Short d.away → length (rows_of d) ≤ 165
rows_few d h a =
    omega (
      arith,
      rows_count d,
      verdicts_few Home d.home.verdicts,
      verdicts_few Away d.away.verdicts,
      list_few 2 Home from_one d.home.excess h.excess,
      list_few 2 Away from_one d.away.excess a.excess,
      kicker_few d.kicker,
      list_few 4 Home none d.home.leaving h.leaving,
      list_few 4 Away none d.away.leaving a.leaving,
      list_few 5 Home none d.home.moved h.moved,
      list_few 5 Away none d.away.moved a.moved,
      ball_few d.ball,
      place_few d.place,
    )

pub text_few : (d : Decision) → Short d.home → Short d.away → length (text_of d) ≤ 7470
text_few d h a = omega (arith, text_long d, rows_few d h a)
