-- A side's items, the kicking player and the counts when x or y changes its sign: x where a is true, y where b is. Assumes nothing.
use mathlib.Core.Path.{◌≡◌, refl, sym, ap, ap₂, ◌∙◌, subst}
use mathlib.Core.Logic.{inl}
use mathlib.Core.Bool.{Bool, cond}
use mathlib.Core.List.{List, [], ◌∷◌, map}
use Prim.Native.Nat.{ℕ}
use Rattle.lists.proofs.Table.{table_same}
use Rattle.game.specs.Game.{is_playing}
use Rattle.game.specs.Players.{player_at, margins_at, team_of, number_at}
use Rattle.game.proofs.Listing.{numbers_same}
use Rattle.game.specs.declared.Ball.{Ball}
use Rattle.game.specs.declared.FieldDimensions.{FieldDimensions}
use Rattle.game.specs.declared.Game.{Game}
use Rattle.game.specs.declared.Player.{Player}
use Rattle.game.specs.declared.PlayerList.{PlayerList}
use Rattle.game.specs.declared.Positioning.{Positioning}
use Rattle.game.specs.declared.Side.{Side}
use Rattle.game.specs.declared.Side.TheVariants.{Home, Away}
use Rattle.game.specs.declared.SideDecision.{SideDecision}
use Rattle.game.specs.declared.Situation.{Situation}
use Rattle.game.specs.declared.Team.{Team}
use Rattle.geometry.specs.Geometry.{side_to_sign, compute_margins}
use Rattle.geometry.specs.Turned.{changed_maybe_pose, changed_team, changed_game, changed_ball}
use Rattle.geometry.proofs.Turned.{player_at_changed, sign_changed, compute_margins_changed, leaving_changed}
use Rattle.positioning.specs.Positioning.{is_illegally_positioned}
use Rattle.positioning.proofs.Turned.{verdict_changed}
use Rattle.excess.proofs.ExcessLaws.{excess_changed}
use Rattle.kicker.proofs.KickerLaws.{kicker_changed}
use Rattle.motion.specs.Motion.{references_after}
use Rattle.motion.proofs.Turned.{moved_players_changed, references_changed}
use Rattle.decision.specs.Decision.{verdict_at, team_verdicts, team_excess, is_excess_asked, empty_list, is_leaving, leaving_players, team_margins, side_margins, team_decision, side_decision, kicker_numbered, kicker_if_any, kicking_player}
use Rattle.decision.specs.Changed.{changed, ChangedReference, ChangedReferences, ChangedSide}
use Rattle.std.specs.Prelude.{Option, None, Some}
use Rattle.game.specs.declared.Margins.{Margins}
use Rattle.game.specs.declared.PlayerPose.{PlayerPose}

module _ (a b : Bool) where
  -- the team of a side
  pub team_of_changed : (s : Situation) (side : Side) → team_of (changed a b s) side ≡ changed_team a b (team_of s side)
  team_of_changed s Home = refl
  team_of_changed s Away = refl

  -- ---- margins
  team_margins_changed : (g : Game) (f : FieldDimensions) (side : Side) (t : Team) → team_margins (changed_game a g) f side (changed_team a b t) ≡ team_margins g f side t
  unfolding team_margins
  team_margins_changed g f side t = ap (compute_margins (changed_team a b t) f) (sign_changed a side g.sides) ∙ compute_margins_changed a b t f (side_to_sign side g.sides)

  pub side_margins_changed : (s : Situation) (side : Side) → side_margins (changed a b s) side ≡ side_margins s side
  unfolding side_margins
  side_margins_changed s side = ap (team_margins (changed_game a s.game) s.field side) (team_of_changed s side) ∙ team_margins_changed s.game s.field side (team_of s side)

  -- ---- verdicts
  verdict_at_changed : (g : Game) (f : FieldDimensions) (o : Ball) (side : Side) (t : Team) (m : List (Option Margins)) (i : ℕ) → verdict_at (changed_game a g) f (changed_ball a b o) side (changed_team a b t) m i ≡ verdict_at g f o side t m i
  verdict_at_changed g f o side t m i =
      (ap (λ (q : Player). is_illegally_positioned (changed_game a g) f (changed_ball a b o) side t.goalkeeper (number_at i) q (margins_at m i)) (player_at_changed a b t i)
      ∙ verdict_changed a b g f o side t.goalkeeper (number_at i) (player_at t i) (margins_at m i))

  verdicts_changed : (g : Game) (f : FieldDimensions) (o : Ball) (side : Side) (t : Team) (m : List (Option Margins)) → team_verdicts (changed_game a g) f (changed_ball a b o) side (changed_team a b t) m ≡ team_verdicts g f o side t m
  unfolding team_verdicts
  verdicts_changed g f o side t m = table_same 20 (verdict_at (changed_game a g) f (changed_ball a b o) side (changed_team a b t) m) (verdict_at g f o side t m) (λ i h. verdict_at_changed g f o side t m i)

  -- ---- excess
  team_excess_changed : (g : Game) (t : Team) (m : List (Option Margins)) → team_excess (changed_game a g) (changed_team a b t) m ≡ team_excess g t m
  unfolding team_excess
  team_excess_changed g t m = ap (λ (l : PlayerList). cond (is_excess_asked g) l empty_list) (excess_changed a b t m (is_playing g.state))

  -- ---- leaving
  leaving_players_changed : (t : Team) (f : FieldDimensions) → leaving_players (changed_team a b t) f ≡ leaving_players t f
  unfolding leaving_players
  leaving_players_changed t f =
      numbers_same (λ i. is_leaving (player_at (changed_team a b t) i) f) (λ i. is_leaving (player_at t i) f)
      (λ i h. ap (λ (q : Player). is_leaving q f) (player_at_changed a b t i) ∙ leaving_changed a b (player_at t i) f (player_at t i).allowance)

  -- ---- references
  reference_same : (r : Option PlayerPose) → ChangedReference a b r (changed_maybe_pose a b r)
  reference_same None = tt
  reference_same (Some p) = (inl refl, inl refl, refl, refl)

  references_same : (l : List (Option PlayerPose)) → ChangedReferences a b l (map (changed_maybe_pose a b) l)
  references_same [] = tt
  references_same (r ∷ l) = (reference_same r, references_same l)

  -- ---- a side
  team_same : (g : Game) (f : FieldDimensions) (o : Ball) (side : Side) (t : Team) (m : List (Option Margins)) → ChangedSide a b (team_decision g f o side t m) (team_decision (changed_game a g) f (changed_ball a b o) side (changed_team a b t) m)
  unfolding team_decision
  team_same g f o side t m =
      record {
        verdicts = verdicts_changed g f o side t m;
        excess = team_excess_changed g t m;
        leaving = leaving_players_changed t f;
        moved = moved_players_changed a b t;
        references = subst (λ (l : List (Option PlayerPose)). ChangedReferences a b (references_after t) l) (sym (references_changed a b t)) (references_same (references_after t));
      }

  pub side_same : (s : Situation) (side : Side) → ChangedSide a b (side_decision s side) (side_decision (changed a b s) side)
  unfolding side_decision
  side_same s side =
      subst (λ (e : SideDecision). ChangedSide a b (team_decision s.game s.field s.ball side (team_of s side) (side_margins s side)) e)
      (sym (ap₂ (λ (t : Team) (m : List (Option Margins)). team_decision (changed_game a s.game) s.field (changed_ball a b s.ball) side t m) (team_of_changed s side) (side_margins_changed s side)))
      (team_same s.game s.field s.ball side (team_of s side) (side_margins s side))

  -- ---- the kicking player
  pub kicking_changed : (g : Game) (home away : Team) (f : FieldDimensions) (m n : List (Option Margins)) → kicking_player (changed_game a g) (changed_team a b home) (changed_team a b away) f m n ≡ kicking_player g home away f m n
  unfolding kicking_player
  kicking_changed g home away f m n = by_side g.kicking_side
    where
      by_side : (k : Option Side) → kicker_if_any k (changed_game a g) (changed_team a b home) (changed_team a b away) f m n ≡ kicker_if_any k g home away f m n
      by_side None = cc (kicker_changed a b g home f m Home)  -- it would hold too if Home's kicker were told without a side; that nobody is told is the contract's
      by_side (Some Home) = ap (kicker_numbered Home) (kicker_changed a b g home f m Home)
      by_side (Some Away) = ap (kicker_numbered Away) (kicker_changed a b g away f n Away)
