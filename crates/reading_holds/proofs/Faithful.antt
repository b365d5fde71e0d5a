-- Items whose lines say what they are: the line has the numbers of an item, low ones, and is read as that item. Assumes nothing.
use mathlib.Core.Path.{◌≡◌, refl, sym, ap, ap₂, subst, ◌∙◌}
use mathlib.Core.Bool.{true, false, ◌&&◌, ◌||◌, true≢false}
use Prim.Native.Nat.{ℕ, ◌≤◌}
use native.Mathlib.Omega.{arith}
use borrow.Author.Tests.{le-leb}
use lib.Dec.{ltb, leb}
use Rattle.lists.proofs.Bools.{both, or_left}
use Rattle.game.specs.Codes.{positioning_code, side_code, judgment_code, judgment_side}
use Rattle.game.specs.declared.BallJudgment.{BallJudgment}
use Rattle.game.specs.declared.BallJudgment.TheVariants.{NoJudgment, Goal, GoalKick, CornerKick, ThrowIn, EndOfPenaltyShot}
use Rattle.game.specs.declared.Positioning.{Positioning}
use Rattle.game.specs.declared.Positioning.TheVariants.{Legal, Illegal, IllegalUnlessKicker, InAvoidanceRegion}
use Rattle.game.specs.declared.Side.{Side}
use Rattle.game.specs.declared.Side.TheVariants.{Home, Away}
use Rattle.lines.specs.declared.Row.{Row}
use Rattle.sheet.specs.Rows.{row}
use Rattle.fields.proofs.Rows.{SmallRow}
use Rattle.items.specs.Items.{row_of, is_player, is_judged, is_verdict, is_item, side_of, verdict_of, judgment_of, item_of}
use Rattle.items.specs.declared.Item.{Item}
use Rattle.items.specs.declared.Item.TheVariants.{Verdict, Excess, Kicks, Leaves, HasMoved, Judged}
use Rattle.reading_holds.proofs.Orderly.{Numbered}

-- bounds of a line's numbers
pub record Low (r : Row) : Type 0 where
  pub kind : r.kind ≤ 9
  pub side : r.side ≤ 2
  pub number : r.number ≤ 20
  pub value : r.value ≤ 4294967295

pub low_small : (r : Row) → Low r → SmallRow r
low_small r h = record { kind_small = omega (arith, h.kind); side_small = omega (arith, h.side); number_small = omega (arith, h.number); value_small = h.value }

pub record Faithful (i : Item) : Type 0 where
  pub back : item_of (row_of i) ≡ i
  pub item : is_item (row_of i) ≡ true
  pub low : Low (row_of i)

-- ---- players
side_back : (side : Side) → side_of (side_code side) ≡ side
side_back Home = refl
side_back Away = refl

pub side_low : (side : Side) → side_code side ≤ 1
side_low Home = omega arith
side_low Away = omega arith

pub player_told : (kind v : ℕ) (side : Side) (n : ℕ) → Numbered n → is_player (row kind (side_code side) n v) ≡ true
player_told kind v Home n h = both (leb 1 n) (leb n 20) (le-leb 1 n h.0) (le-leb n 20 h.1)
player_told kind v Away n h = both (leb 1 n) (leb n 20) (le-leb 1 n h.0) (le-leb n 20 h.1)

pub player_low : (kind v : ℕ) (side : Side) (n : ℕ) → kind ≤ 9 → v ≤ 4294967295 → Numbered n → Low (row kind (side_code side) n v)
player_low kind v side n k w h = record { kind = k; side = omega (arith, side_low side); number = h.1; value = w }

-- ---- verdicts
verdict_back : (v : Positioning) → ltb 0 (positioning_code v) ≡ true → (verdict_of (positioning_code v) ≡ v) × (is_verdict (positioning_code v) ≡ true) × (positioning_code v ≤ 3)
verdict_back Legal h = absurd (true≢false (sym h))
verdict_back Illegal h = (refl, refl, omega arith)
verdict_back IllegalUnlessKicker h = (refl, refl, omega arith)
verdict_back InAvoidanceRegion h = (refl, refl, omega arith)

pub verdict_faithful : (side : Side) (n : ℕ) (v : Positioning) → Numbered n → ltb 0 (positioning_code v) ≡ true → Faithful (Verdict side n v)
unfolding item_of is_item
verdict_faithful side n v h t =
    let r = row 1 (side_code side) n (positioning_code v) in
    let w = verdict_back v t in
    record {
      back = ap₂ (λ (a : Side) (b : Positioning). Verdict a n b) (side_back side) w.0;
      item = or_left (is_player r && is_verdict (positioning_code v)) _ (both (is_player r) (is_verdict (positioning_code v)) (player_told 1 (positioning_code v) side n h) w.1);
      low = player_low 1 (positioning_code v) side n (omega arith) (omega (arith, w.2)) h;
    }

-- ---- ranks
pub excess_faithful : (side : Side) (n rank : ℕ) → Numbered n → rank ≤ 20 → Faithful (Excess side n rank)
unfolding item_of is_item
excess_faithful side n rank h l =
    record {
      back = ap (λ (a : Side). Excess a n rank) (side_back side);
      item = or_left (is_player (row 2 (side_code side) n rank)) _ (player_told 2 rank side n h);
      low = player_low 2 rank side n (omega arith) (omega arith) h;
    }

-- ---- the kicker, those leaving and those moved
module _ (side : Side) (n : ℕ) (h : Numbered n) where
  named_faithful : (item : Side → ℕ → Item) (kind : ℕ) → kind ≤ 9 → row_of (item side n) ≡ row kind (side_code side) n 0 → item_of (row kind (side_code side) n 0) ≡ item (side_of (side_code side)) n
      → is_item (row kind (side_code side) n 0) ≡ (is_player (row kind (side_code side) n 0) && true || false) → Faithful (item side n)
  named_faithful item kind low e back told =
      record {
        back = ap item_of e ∙ back ∙ ap (λ (a : Side). item a n) (side_back side);
        item = ap is_item e ∙ told ∙ or_left (is_player (row kind (side_code side) n 0) && true) false (both (is_player (row kind (side_code side) n 0)) true (player_told kind 0 side n h) refl);
        low = subst Low (sym e) (player_low kind 0 side n low (omega arith) h);
      }

  pub kicks_faithful : Faithful (Kicks side n)
  unfolding item_of is_item
  kicks_faithful = named_faithful Kicks 3 (omega arith) refl refl refl

  pub leaves_faithful : Faithful (Leaves side n)
  unfolding item_of is_item
  leaves_faithful = named_faithful Leaves 4 (omega arith) refl refl refl

  pub moved_faithful : Faithful (HasMoved side n)
  unfolding item_of is_item
  moved_faithful = named_faithful HasMoved 5 (omega arith) refl refl refl

-- ---- judgments
judgment_back : (j : BallJudgment) → ltb 0 (judgment_code j) ≡ true
    → (judgment_of (side_of (judgment_side j)) (judgment_code j) ≡ j) × (is_judged (row 6 (judgment_side j) (judgment_code j) 0) ≡ true) × (judgment_side j ≤ 2) × (judgment_code j ≤ 5)
judgment_back NoJudgment h = absurd (true≢false (sym h))
judgment_back (Goal Home) h = (refl, refl, omega arith, omega arith)
judgment_back (Goal Away) h = (refl, refl, omega arith, omega arith)
judgment_back (GoalKick Home) h = (refl, refl, omega arith, omega arith)
judgment_back (GoalKick Away) h = (refl, refl, omega arith, omega arith)
judgment_back (CornerKick Home) h = (refl, refl, omega arith, omega arith)
judgment_back (CornerKick Away) h = (refl, refl, omega arith, omega arith)
judgment_back (ThrowIn Home) h = (refl, refl, omega arith, omega arith)
judgment_back (ThrowIn Away) h = (refl, refl, omega arith, omega arith)
judgment_back EndOfPenaltyShot h = (refl, refl, omega arith, omega arith)

pub judged_faithful : (j : BallJudgment) → ltb 0 (judgment_code j) ≡ true → Faithful (Judged j)
unfolding item_of is_item
judged_faithful j h =
    let w = judgment_back j h in
    let r = row 6 (judgment_side j) (judgment_code j) 0 in
    record {
      back = ap Judged w.0;
      item = or_left (is_judged r && true) _ (both (is_judged r) true w.1 refl);
      low = record { kind = omega arith; side = w.2; number = omega (arith, w.3); value = omega arith };
    }
