-- The sheet's lines of kind 1 are those of the verdicts. Assumes nothing.
use mathlib.Core.Path.{◌≡◌, refl, ap, ap₂, ◌∙◌}
use mathlib.Core.Bool.{Bool, true, false}
use mathlib.Core.List.{List, [], ◌∷◌, ◌++◌, append_assoc, append-nil}
use Prim.Native.Nat.{ℕ, zero, suc, ◌+◌}
use lib.Dec.{eqb, ltb}
use lib.ListN.{length, get_or}
use Rattle.lists.specs.Gather.{flat_to, only_if}
use Rattle.lists.specs.Table.{table}
use Rattle.lists.proofs.Gather.{flat_same}
use Rattle.game.specs.declared.BallJudgment.{BallJudgment}
use Rattle.game.specs.declared.Decision.{Decision}
use Rattle.game.specs.declared.KickingPlayer.{KickingPlayer}
use Rattle.game.specs.declared.Placement.{Placement}
use Rattle.game.specs.declared.Placement.TheVariants.{NoPlace, BallAt, PlayerAt}
use Rattle.game.specs.declared.PlayerList.{PlayerList}
use Rattle.game.specs.declared.Side.{Side}
use Rattle.game.specs.declared.Side.TheVariants.{Home, Away}
use Rattle.lines.specs.declared.Row.{Row}
use Rattle.sheet.specs.Rows.{row, verdict_code, verdict_row, verdict_rows, numbers_of, list_rows, from_one, none, kicker_rows, ball_rows, place_rows, rows_of, sheet_rows}
use Rattle.game.specs.Codes.{side_code, judgment_code, judgment_side}
use Rattle.sentences_hold.specs.Claims.{kept_if, of_kind, verdict_lines}
use Rattle.game.specs.declared.Positioning.{Positioning}
use Rattle.std.specs.Prelude.{Option, None, Some}

-- ---- lists and their lines of kind 1
kind_append : (k l : List Row) → of_kind 1 (k ++ l) ≡ of_kind 1 k ++ of_kind 1 l
kind_append [] l = refl
kind_append (r ∷ k) l = go (eqb r.kind 1) (kind_append k l)
  where
    go : (b : Bool) → of_kind 1 (k ++ l) ≡ of_kind 1 k ++ of_kind 1 l → kept_if b r (of_kind 1 (k ++ l)) ≡ kept_if b r (of_kind 1 k) ++ of_kind 1 l
    go true e = ap (λ (t : List Row). r ∷ t) e
    go false e = e

kind_flat : (n : ℕ) (f : ℕ → List Row) → of_kind 1 (flat_to n f) ≡ flat_to n (λ i. of_kind 1 (f i))
unfolding flat_to
kind_flat zero f = refl
kind_flat (suc n) f = kind_append (flat_to n f) (f n) ∙ ap (λ (t : List Row). t ++ of_kind 1 (f n)) (kind_flat n f)

kind_only : (b : Bool) (side n v : ℕ) → of_kind 1 (only_if b (row 1 side n v)) ≡ only_if b (row 1 side n v)
kind_only true side n v = refl
kind_only false side n v = refl

kind_table : (n : ℕ) (f : ℕ → Row) → ((i : ℕ) → eqb (f i).kind 1 ≡ false) → of_kind 1 (table n f) ≡ []
kind_table zero f e = refl
kind_table (suc n) f e = ap (λ (b : Bool). kept_if b (f 0) (of_kind 1 (table n (λ k. f (suc k))))) (e 0) ∙ kind_table n (λ k. f (suc k)) (λ i. e (suc i))

-- ---- the blocks of a sheet
verdicts_kind : (side : Side) (vs : List Positioning) → of_kind 1 (verdict_rows side vs) ≡ verdict_rows side vs
unfolding verdict_rows
verdicts_kind side vs =
    kind_flat 20 (verdict_row (side_code side) vs)
    ∙ flat_same 20 (λ i. of_kind 1 (verdict_row (side_code side) vs i)) (verdict_row (side_code side) vs) (λ i h. kind_only (ltb 0 (verdict_code vs i)) (side_code side) (i + 1) (verdict_code vs i))

kicker_kind : (k : Option KickingPlayer) → of_kind 1 (kicker_rows k) ≡ []
kicker_kind None = refl
kicker_kind (Some k) = refl

only_kind : (b : Bool) (side n : ℕ) → of_kind 1 (only_if b (row 6 side n 0)) ≡ []
only_kind true side n = refl
only_kind false side n = refl

ball_kind : (j : BallJudgment) → of_kind 1 (ball_rows j) ≡ []
unfolding ball_rows
ball_kind j = only_kind (ltb 0 (judgment_code j)) (judgment_side j) (judgment_code j)

place_kind : (p : Placement) → of_kind 1 (place_rows p) ≡ []
unfolding place_rows
place_kind NoPlace = refl
place_kind (BallAt x y z) = refl
place_kind (PlayerAt side n x y theta) = refl

list_kind : (kind : ℕ) (side : Side) (value : ℕ → ℕ) (l : PlayerList) → eqb kind 1 ≡ false → of_kind 1 (list_rows kind side value l) ≡ []
unfolding list_rows
list_kind kind side value l e = kind_table (length (numbers_of l)) (λ k. row kind (side_code side) (get_or (numbers_of l) k 0) (value k)) (λ i. e)

-- one list after the other
joined : List (List Row) → List Row
joined [] = []
joined (l ∷ ls) = l ++ joined ls

-- none has a line of kind 1
data Others : List (List Row) → Type 0 where
  no_more : Others []
  one_more : {l : List Row} {ls : List (List Row)} → of_kind 1 l ≡ [] → Others ls → Others (l ∷ ls)

others_kind : {ls : List (List Row)} → Others ls → of_kind 1 (joined ls) ≡ []
unfolding joined
others_kind no_more = refl
others_kind (one_more {l} {ls} e o) = kind_append l (joined ls) ∙ ap₂ (λ (s t : List Row). s ++ t) e (others_kind o)

module _ (d : Decision) where
  -- the blocks after those of the verdicts
  blocks : List (List Row)
  blocks =
      list_rows 2 Home from_one d.home.excess
      ∷ list_rows 2 Away from_one d.away.excess
      ∷ kicker_rows d.kicker
      ∷ list_rows 4 Home none d.home.leaving
      ∷ list_rows 4 Away none d.away.leaving
      ∷ list_rows 5 Home none d.home.moved
      ∷ list_rows 5 Away none d.away.moved
      ∷ ball_rows d.ball
      ∷ place_rows d.place
      ∷ []

  blocks_other : Others blocks
  unfolding blocks
  blocks_other =
      one_more (list_kind 2 Home from_one d.home.excess refl)
      (one_more (list_kind 2 Away from_one d.away.excess refl)
      (one_more (kicker_kind d.kicker)
      (one_more (list_kind 4 Home none d.home.leaving refl)
      (one_more (list_kind 4 Away none d.away.leaving refl)
      (one_more (list_kind 5 Home none d.home.moved refl)
      (one_more (list_kind 5 Away none d.away.moved refl)
      (one_more (ball_kind d.ball)
      (one_more (place_kind d.place)
      no_more))))))))

  rows_told : rows_of d ≡ (verdict_rows Home d.home.verdicts ++ verdict_rows Away d.away.verdicts) ++ joined blocks
  unfolding rows_of blocks joined
  rows_told = simp (append_assoc, append-nil)

  pub verdict_lines_holds : verdict_lines d ≡ verdict_rows Home d.home.verdicts ++ verdict_rows Away d.away.verdicts
  unfolding sheet_rows
  verdict_lines_holds =
      let home = verdict_rows Home d.home.verdicts in
      let away = verdict_rows Away d.away.verdicts in
      ap (of_kind 1) rows_told
      ∙ kind_append (home ++ away) (joined blocks)
      ∙ ap₂ (λ (s t : List Row). s ++ t) (kind_append home away ∙ ap₂ (λ (s t : List Row). s ++ t) (verdicts_kind Home d.home.verdicts) (verdicts_kind Away d.away.verdicts)) (others_kind blocks_other)
      ∙ append-nil (home ++ away)
