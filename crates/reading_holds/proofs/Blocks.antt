-- The lines of a decision block by block, and which of them have a kind. Assumes nothing.
use mathlib.Core.Path.{◌≡◌, refl, ap₂, ◌∙◌}
use mathlib.Core.Bool.{Bool, false, ◌&&◌}
use mathlib.Core.List.{List, [], ◌++◌, append-nil}
use Prim.Native.Nat.{ℕ, ◌+◌}
use lib.Dec.{ltb, eqb}
use lib.ListN.{length, get_or}
use Rattle.game.specs.Codes.{side_code, judgment_code, judgment_side}
use Rattle.game.specs.declared.BallJudgment.{BallJudgment}
use Rattle.game.specs.declared.Decision.{Decision}
use Rattle.game.specs.declared.KickingPlayer.{KickingPlayer}
use Rattle.game.specs.declared.Placement.{Placement}
use Rattle.game.specs.declared.Placement.TheVariants.{NoPlace, BallAt, PlayerAt}
use Rattle.game.specs.declared.PlayerList.{PlayerList}
use Rattle.game.specs.declared.Side.{Side}
use Rattle.game.specs.declared.Side.TheVariants.{Home, Away}
use Rattle.game.specs.declared.SideDecision.{SideDecision}
use Rattle.lines.specs.declared.Row.{Row}
use Rattle.sheet.specs.Rows.{row, verdict_code, verdict_row, verdict_rows, numbers_of, list_rows, from_one, none, kicker_rows, ball_rows, place_rows, rows_of}
use Rattle.reading.specs.Rules.{only}
use Rattle.reading.proofs.All.{All, no_more, one_more, all_only, all_flat, all_table, all_so}
use Rattle.reading.proofs.Lists.{only_append, kept, only_kept}
use Rattle.game.specs.declared.Positioning.{Positioning}
use Rattle.std.specs.Prelude.{Option, None, Some}

-- ---- each block has one kind, and one side
abbrev pub At : ℕ → ℕ → Row → Type 0
At kind side r = (r.kind ≡ kind) × (r.side ≡ side)

pub verdicts_at : (side : Side) (v : List Positioning) → All (At 1 (side_code side)) (verdict_rows side v)
unfolding verdict_rows
verdicts_at side v = all_flat 20 (verdict_row (side_code side) v) (λ i l. all_only (ltb 0 (verdict_code v i)) (row 1 (side_code side) (i + 1) (verdict_code v i)) (λ t. (refl, refl)))

pub list_at : (kind : ℕ) (side : Side) (value : ℕ → ℕ) (l : PlayerList) → All (At kind (side_code side)) (list_rows kind side value l)
unfolding list_rows
list_at kind side value l = all_table (length (numbers_of l)) (λ k. row kind (side_code side) (get_or (numbers_of l) k 0) (value k)) (λ k h. (refl, refl))

-- the kicker's side, 0 where there is none
abbrev pub kicker_side : Option KickingPlayer → ℕ
kicker_side None = 0
kicker_side (Some k) = side_code k.side

pub kicker_at : (k : Option KickingPlayer) → All (At 3 (kicker_side k)) (kicker_rows k)
kicker_at None = no_more
kicker_at (Some k) = one_more (refl, refl) no_more

pub ball_at : (j : BallJudgment) → All (At 6 (judgment_side j)) (ball_rows j)
unfolding ball_rows
ball_at j = all_only (ltb 0 (judgment_code j)) (row 6 (judgment_side j) (judgment_code j) 0) (λ t. (refl, refl))

-- ---- the lines that pass a test of kind and side: blocks as a whole
module _ (q : ℕ → ℕ → Bool) where
  -- the test of a line
  abbrev pub tested : Row → Bool
  tested r = q r.kind r.side

  only_at : {kind side : ℕ} {rs : List Row} → All (At kind side) rs → only tested rs ≡ kept (q kind side) rs
  only_at {kind} {side} h = only_kept tested (q kind side) (all_so (λ r e. ap₂ q e.0 e.1) h)

  pub rows_only : (d : Decision)
      → only tested (rows_of d)
      ≡ kept (q 1 0) (verdict_rows Home d.home.verdicts)
      ++ kept (q 1 1) (verdict_rows Away d.away.verdicts)
      ++ kept (q 2 0) (list_rows 2 Home from_one d.home.excess)
      ++ kept (q 2 1) (list_rows 2 Away from_one d.away.excess)
      ++ kept (q 3 (kicker_side d.kicker)) (kicker_rows d.kicker)
      ++ kept (q 4 0) (list_rows 4 Home none d.home.leaving)
      ++ kept (q 4 1) (list_rows 4 Away none d.away.leaving)
      ++ kept (q 5 0) (list_rows 5 Home none d.home.moved)
      ++ kept (q 5 1) (list_rows 5 Away none d.away.moved)
      ++ kept (q 6 (judgment_side d.ball)) (ball_rows d.ball)
      ++ only tested (place_rows d.place)
  unfolding rows_of
  rows_only d =
      simp (
        only_append,
        only_at (verdicts_at Home d.home.verdicts),
        only_at (verdicts_at Away d.away.verdicts),
        only_at (list_at 2 Home from_one d.home.excess),
        only_at (list_at 2 Away from_one d.away.excess),
        only_at (kicker_at d.kicker),
        only_at (list_at 4 Home none d.home.leaving),
        only_at (list_at 4 Away none d.away.leaving),
        only_at (list_at 5 Home none d.home.moved),
        only_at (list_at 5 Away none d.away.moved),
        only_at (ball_at d.ball),
      )

  -- no line of a place passes
  place_none : ((side : ℕ) → (q 7 side ≡ false) × (q 8 side ≡ false) × (q 9 side ≡ false)) → (p : Placement) → only tested (place_rows p) ≡ []
  unfolding place_rows
  place_none f NoPlace = unfold only in refl
  place_none f (BallAt x y z) = only_kept tested false (one_more (f 2).0 (one_more (f 2).1 (one_more (f 2).2 no_more)))
  place_none f (PlayerAt side n x y z) = only_kept tested false (one_more (f (side_code side)).0 (one_more (f (side_code side)).1 (one_more (f (side_code side)).2 no_more)))

-- what is decided of a side
abbrev pub side_of : Decision → Side → SideDecision
side_of d Home = d.home
side_of d Away = d.away

-- ---- the lines of each kind
module _ (d : Decision) where
  pub verdicts_only : only (tested (λ k s. eqb k 1)) (rows_of d) ≡ verdict_rows Home d.home.verdicts ++ verdict_rows Away d.away.verdicts
  verdicts_only = rows_only (λ k s. eqb k 1) d ∙ simp (place_none (λ k s. eqb k 1) (λ s. (refl, refl, refl)), append-nil)

  pub excess_only : (side : Side) → only (tested (λ k s. eqb k 2 && eqb s (side_code side))) (rows_of d) ≡ list_rows 2 side from_one (side_of d side).excess
  excess_only Home = rows_only (λ k s. eqb k 2 && eqb s 0) d ∙ simp (place_none (λ k s. eqb k 2 && eqb s 0) (λ s. (refl, refl, refl)), append-nil)
  excess_only Away = rows_only (λ k s. eqb k 2 && eqb s 1) d ∙ simp (place_none (λ k s. eqb k 2 && eqb s 1) (λ s. (refl, refl, refl)), append-nil)

  pub kicker_only : only (tested (λ k s. eqb k 3)) (rows_of d) ≡ kicker_rows d.kicker
  kicker_only = rows_only (λ k s. eqb k 3) d ∙ simp (place_none (λ k s. eqb k 3) (λ s. (refl, refl, refl)), append-nil)

  pub leaving_only : only (tested (λ k s. eqb k 4)) (rows_of d) ≡ list_rows 4 Home none d.home.leaving ++ list_rows 4 Away none d.away.leaving
  leaving_only = rows_only (λ k s. eqb k 4) d ∙ simp (place_none (λ k s. eqb k 4) (λ s. (refl, refl, refl)), append-nil)

  pub moved_only : only (tested (λ k s. eqb k 5)) (rows_of d) ≡ list_rows 5 Home none d.home.moved ++ list_rows 5 Away none d.away.moved
  moved_only = rows_only (λ k s. eqb k 5) d ∙ simp (place_none (λ k s. eqb k 5) (λ s. (refl, refl, refl)), append-nil)

  pub ball_only : only (tested (λ k s. eqb k 6)) (rows_of d) ≡ ball_rows d.ball
  ball_only = rows_only (λ k s. eqb k 6) d ∙ simp (place_none (λ k s. eqb k 6) (λ s. (refl, refl, refl)), append-nil)
