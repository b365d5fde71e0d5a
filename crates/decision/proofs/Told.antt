-- From what the calls tell to the definitions. Assumes nothing.
use mathlib.Core.Path.{◌≡◌, refl, sym, ap, ap₂, ◌∙◌}
use mathlib.Core.Logic.{◌⊎◌, inl, inr}
use mathlib.Core.Bool.{Bool, true, false, cond}
use mathlib.Core.List.{List}
use Prim.Native.Nat.{ℕ}
use borrow.Author.Tests.{eq-eqb, ne_eqb}
use lib.Ieee.{Float}
use lib.ListN.{get_or, replicate}
use Rattle.lists.specs.Table.{table}
use Rattle.lists.proofs.Table.{table_at, table_same}
use Rattle.game.specs.Game.{is_playing}
use Rattle.game.specs.declared.Ball.{Ball}
use Rattle.game.specs.declared.FieldDimensions.{FieldDimensions}
use Rattle.game.specs.declared.Game.{Game}
use Rattle.game.specs.declared.Player.{Player}
use Rattle.game.specs.declared.PlayerList.{PlayerList}
use Rattle.game.specs.declared.Side.{Side}
use Rattle.game.specs.declared.Side.TheVariants.{Home, Away}
use Rattle.game.specs.declared.Situation.{Situation}
use Rattle.game.specs.declared.Team.{Team}
use Rattle.game.specs.declared.Positioning.{Positioning}
use Rattle.game.specs.declared.Positioning.TheVariants.{Legal}
use Rattle.game.specs.Players.{player_numbered}
use Rattle.conditions.specs.Conditions.{verdict_of}
use Rattle.conditions.specs.declared.Condition.TheVariants.{NoCondition}
use Rattle.positioning.specs.Positioning.{condition_at, team_conditions, is_judging, is_illegally_positioned}
use Rattle.positioning.proofs.Judging.{none_judged}
use Rattle.places.specs.Places.{penalty_shot_place, penalty_goalkeeper_place}
use Rattle.counts.specs.Counts.{players_on_field}
use Rattle.excess.specs.Excess.{goal_area_excess}
use Rattle.kicker.specs.Kicker.{determine_kicking_player}
use Rattle.motion.specs.Motion.{moved_players, references_after}
use Rattle.game.specs.declared.BallJudgment.{BallJudgment}
use Rattle.game.specs.declared.Placement.{Placement}
use Rattle.refusals.specs.Refusals.{refusal_of}
use Rattle.decision.specs.Decision.{verdict_at, team_verdicts, is_excess_asked, empty_list, team_excess, leaving_players, kicker_numbered, kicker_if_any, kicking_player, ball_called_among, ball_called, wished_place, team_margins, team_decision, side_margins, side_decision, decision_of, empty_decision, answer_of, answered}
use Rattle.game.specs.declared.SideDecision.{SideDecision}
use Rattle.game.specs.declared.Decision.{Decision}
use Rattle.seen.specs.Seen.{side_seen}
use Rattle.seen.specs.declared.Seen.{Seen}
use Rattle.refusal.specs.Refusal as Numbers
use Rattle.refusal.specs.Refusal.{refused, unless_refused, number_in}
use Rattle.refusal.specs.declared.Refusal.{Refusal}
use Rattle.refusal.proofs.Told.{not_refused, refused_by}
use Rattle.refusals.proofs.Numbers.{number_back}
use Rattle.game.specs.declared.KickingPlayer.{KickingPlayer}
use Rattle.std.specs.Prelude.{⊤, Option, Some, Result, Ok, Err}
use Rattle.game.specs.declared.Margins.{Margins}
use Rattle.conditions.specs.declared.Condition.{Condition}
use Rattle.game.specs.declared.PlayerPose.{PlayerPose}

-- ---- a verdict
-- that of the condition at a place
abbrev pub verdict_by : List Condition → ℕ → Positioning
verdict_by conditions k = verdict_of (get_or conditions k NoCondition)

pub verdicts_told : (g : Game) (f : FieldDimensions) (b : Ball) (side : Side) (t : Team) (margins : List (Option Margins)) (conditions : List Condition) (out : List Positioning) → conditions ≡ team_conditions g f b side t margins → out ≡ table 20 (verdict_by conditions)
    → out ≡ team_verdicts g f b side t margins
unfolding team_verdicts team_conditions is_illegally_positioned
verdicts_told g f b side t margins conditions out e p =
    p
    ∙ ap (λ (l : List Condition). table 20 (verdict_by l)) e
    ∙ table_same 20 (verdict_by (team_conditions g f b side t margins)) (verdict_at g f b side t margins) (λ k h. ap verdict_of (table_at 20 (condition_at g f b side t margins) NoCondition k h))

pub verdicts_none : (g : Game) (f : FieldDimensions) (b : Ball) (side : Side) (t : Team) (margins : List (Option Margins)) → is_judging g ≡ false → replicate 20 Legal ≡ team_verdicts g f b side t margins
verdicts_none g f b side t margins e = verdicts_told g f b side t margins (replicate 20 NoCondition) (replicate 20 Legal) (none_judged g f b side t margins e) refl

-- ---- what is seen of a side
module _ (g : Game) (f : FieldDimensions) (side : Side) (t : Team) (seen : Seen) (known : seen ≡ side_seen g f side t) where
  pub seen_margins : seen.margins ≡ team_margins g f side t
  unfolding side_seen team_margins
  seen_margins = ap (λ (z : Seen). z.margins) known

  pub seen_count : seen.on_field ≡ players_on_field t
  unfolding side_seen
  seen_count = ap (λ (z : Seen). z.on_field) known

-- ---- an excess list, asked or not
module _ (g : Game) (t : Team) (margins : List (Option Margins)) where
  excess_if : Bool → PlayerList
  excess_if b = cond b (goal_area_excess t margins (is_playing g.state)) empty_list

  pub excess_told : (playing : Bool) (l : PlayerList) → is_excess_asked g ≡ true → playing ≡ is_playing g.state → l ≡ goal_area_excess t margins playing → l ≡ team_excess g t margins
  unfolding team_excess excess_if
  excess_told playing l y p e = e ∙ ap (goal_area_excess t margins) p ∙ ap excess_if (sym y)

  pub excess_none : (l : PlayerList) → is_excess_asked g ≡ false → l ≡ empty_list → l ≡ team_excess g t margins
  unfolding team_excess excess_if
  excess_none l n e = e ∙ ap excess_if (sym n)

-- ---- the kicking player, by the side that kicks
-- from whichever way it came
pub by_way {ℓ ℓ' ℓ''} : {A : Type ℓ} {B : Type ℓ'} {C : Type ℓ''} → A ⊎ B → (A → C) → (B → C) → C
by_way (inl x) f g = f x
by_way (inr y) f g = g y

module _ (g : Game) (home away : Team) (f : FieldDimensions) (hm am : List (Option Margins)) where
  -- the number of the kicking player of one side
  abbrev number_of : Side → Option ℕ
  number_of Home = determine_kicking_player g home f hm Home
  number_of Away = determine_kicking_player g away f am Away

  of_side : (side : Side) → kicker_numbered side (number_of side) ≡ kicker_if_any (Some side) g home away f hm am
  of_side Home = refl
  of_side Away = refl

  pub kicker_told : (side other : Side) (number found : Option ℕ) (k : Option KickingPlayer) → g.kicking_side ≡ Some other → k ≡ kicker_numbered other number → other ≡ side → number ≡ found → found ≡ number_of side → k ≡ kicking_player g home away f hm am
  unfolding kicking_player
  kicker_told side other number found k e ek es en ef =
      ek ∙ ap₂ kicker_numbered es (en ∙ ef) ∙ of_side side ∙ ap (λ (m : Option Side). kicker_if_any m g home away f hm am) (sym (e ∙ ap Some es))

-- ---- a player's place in a penalty shot, and a goalkeeper's
module _ (g : Game) (f : FieldDimensions) (side : Side) (team t : Team) where
  pub shot_told : (n : ℕ) (p : Player) (r : Placement) → t ≡ team → p ≡ player_numbered t n → r ≡ penalty_shot_place g f side n p → r ≡ penalty_shot_place g f side n (player_numbered team n)
  shot_told n p r et ep er = er ∙ ap (penalty_shot_place g f side n) (ep ∙ ap (λ (u : Team). player_numbered u n) et)

  pub keeper_told : (r : Placement) → t ≡ team → r ≡ penalty_goalkeeper_place g f side t → r ≡ penalty_goalkeeper_place g f side team
  keeper_told r et er = er ∙ ap (penalty_goalkeeper_place g f side) et

-- ---- the items of a side
module _ (g : Game) (f : FieldDimensions) (b : Ball) (side : Side) (t : Team) (margins : List (Option Margins)) where
  items : List Positioning → PlayerList → PlayerList → PlayerList → List (Option PlayerPose) → SideDecision
  items v e l m r = record { verdicts = v; excess = e; leaving = l; moved = m; references = r }

  pub side_told : (v : List Positioning) (e l m : PlayerList) (r : List (Option PlayerPose)) → v ≡ team_verdicts g f b side t margins → e ≡ team_excess g t margins → l ≡ leaving_players t f → m ≡ moved_players t → r ≡ references_after t
      → record { verdicts = v; excess = e; leaving = l; moved = m; references = r } ≡ team_decision g f b side t margins
  unfolding items team_decision
  side_told v e l m r ev ee el em er =
      ap (λ (z : List Positioning). items z e l m r) ev
      ∙ ap (λ (z : PlayerList). items (team_verdicts g f b side t margins) z l m r) ee
      ∙ ap (λ (z : PlayerList). items (team_verdicts g f b side t margins) (team_excess g t margins) z m r) el
      ∙ ap (λ (z : PlayerList). items (team_verdicts g f b side t margins) (team_excess g t margins) (leaving_players t f) z r) em
      ∙ ap (items (team_verdicts g f b side t margins) (team_excess g t margins) (leaving_players t f) (moved_players t)) er

-- ---- the decision
module _ (s : Situation) (xs ys : List Float) where
  whole : SideDecision → SideDecision → Option KickingPlayer → BallJudgment → Placement → Decision
  whole h a k b p = record { home = h; away = a; kicker = k; ball = b; place = p }

  kicks : List (Option Margins) → List (Option Margins) → Option KickingPlayer
  kicks hm am = kicking_player s.game s.home s.away s.field hm am

  pub decision_told : (hm am : List (Option Margins)) (hn an : ℕ) (h a : SideDecision) (k : Option KickingPlayer) (b : BallJudgment) (p : Placement) → hm ≡ team_margins s.game s.field Home s.home → am ≡ team_margins s.game s.field Away s.away → hn ≡ players_on_field s.home → an ≡ players_on_field s.away
      → h ≡ team_decision s.game s.field s.ball Home s.home hm → a ≡ team_decision s.game s.field s.ball Away s.away am → k ≡ kicking_player s.game s.home s.away s.field hm am → b ≡ ball_called_among s hn an → p ≡ wished_place s xs ys
      → record { home = h; away = a; kicker = k; ball = b; place = p } ≡ decision_of s xs ys
  unfolding whole kicks side_margins side_decision ball_called decision_of
  decision_told hm am hn an h a k b p ehm eam ehn ean eh ea ek eb ep =
      ap (λ (z : SideDecision). whole z a k b p) (eh ∙ ap (team_decision s.game s.field s.ball Home s.home) ehm)
      ∙ ap (λ (z : SideDecision). whole (side_decision s Home) z k b p) (ea ∙ ap (team_decision s.game s.field s.ball Away s.away) eam)
      ∙ ap (λ (z : Option KickingPlayer). whole (side_decision s Home) (side_decision s Away) z b p) (ek ∙ ap (λ (z : List (Option Margins)). kicks z am) ehm ∙ ap (kicks (side_margins s Home)) eam)
      ∙ ap (λ (z : BallJudgment). whole (side_decision s Home) (side_decision s Away) (kicks (side_margins s Home) (side_margins s Away)) z p) (eb ∙ ap (λ (n : ℕ). ball_called_among s n an) ehn ∙ ap (ball_called_among s (players_on_field s.home)) ean)
      ∙ ap (whole (side_decision s Home) (side_decision s Away) (kicks (side_margins s Home) (side_margins s Away)) (ball_called s)) ep

  -- ---- the answer: the decision, or the refusal alone
  given : Bool → Result Decision Refusal
  given accepted = cond accepted (Ok (cond accepted (decision_of s xs ys) empty_decision)) (refused (refusal_of s xs ys))

  pub answer_accepted : (d : Decision) → ◌≡◌ {A = Result ⊤ Refusal} (Ok tt) (unless_refused (refusal_of s xs ys) tt) → d ≡ decision_of s xs ys → Ok d ≡ answered (answer_of s xs ys)
  unfolding given answer_of
  answer_accepted d e ed = ap Ok ed ∙ ap given (sym (eq-eqb (refusal_of s xs ys) 0 (not_refused (refusal_of s xs ys) tt tt e).0))

  pub answer_refused : (r : Refusal) → ◌≡◌ {A = Result ⊤ Refusal} (Err r) (unless_refused (refusal_of s xs ys) tt) → Err r ≡ answered (answer_of s xs ys)
  unfolding given answer_of
  answer_refused r e = let p = refused_by (refusal_of s xs ys) tt r e in ap Err p.1 ∙ ap given (sym (ne_eqb (refusal_of s xs ys) 0 p.0))

-- ---- and back from it
module _ (s : Situation) (xs ys : List Float) where
  pub answered_number : (r : Refusal) → Err r ≡ answered (answer_of s xs ys) → Numbers.number_of r ≡ (answer_of s xs ys).refusal
  unfolding answer_of
  answered_number r e = ap number_in e ∙ number_back (answer_of s xs ys).decision s xs ys
