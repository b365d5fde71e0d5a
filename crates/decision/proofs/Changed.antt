-- For every accepted situation the decision and that of the situation in which x or y changes its sign are equal if and only if the exception does not hold. Assumes nothing.
use mathlib.Core.Path.{◌≡◌, refl, sym, ap, ap₂, ◌∙◌, subst}
use mathlib.Core.Bool.{Bool, true, false, true≢false}
use mathlib.Core.List.{List}
use Prim.Native.Nat.{ℕ}
use lib.Ieee.{Float}
use Rattle.lists.specs.Refusals.{first_refusal}
use Rattle.lists.proofs.Bools.{by_test}
use Rattle.game.specs.Players.{team_of, team_of_side, player_numbered}
use Rattle.game.specs.declared.Player.{Player}
use Rattle.game.specs.declared.Side.{Side}
use Rattle.game.specs.declared.Side.TheVariants.{Home, Away}
use Rattle.game.specs.declared.Situation.{Situation}
use Rattle.game.specs.declared.Team.{Team}
use Rattle.game.specs.declared.Wish.{Wish}
use Rattle.game.specs.declared.Wish.TheVariants.{Nothing, BallAtRestart, BallInSet, ForPenalty, ForPenaltyShot, Goalkeeper}
use Rattle.geometry.specs.Turned.{changed_game, changed_team, changed_ball}
use Rattle.counts.specs.Counts.{players_on_field}
use Rattle.counts.proofs.CountsLaws.{count_changed}
use Rattle.ball.specs.Ball.{ball_judgment}
use Rattle.ball.proofs.Turned.{judgment_changed, judgment_differs}
use Rattle.places.specs.Places.{penalty_shot_place, penalty_goalkeeper_place}
use Rattle.places.specs.Turned.{ChangedHeading, ChangedPlace, none}
use Rattle.geometry.proofs.Turned.{numbered_changed}
use Rattle.places.proofs.Turned.{ball_at_restart_changed, ball_in_set_changed, penalty_shot_changed, penalty_goalkeeper_changed, heading_changed}
use Rattle.penalty.proofs.Sizes as Sizes
use Rattle.penalty.proofs.Turned.{sized_place_changed}
use Rattle.refusals.specs.Refusals.{field_fits, numbers_fit, wish_fits, distance_fits, five, requirements_of, refusal_of}
use Rattle.refusals.proofs.Refused.{poses_fit_changed, ball_fits_changed}
use Rattle.decision.specs.Decision.{ball_called_among, ball_called, place_for, wished_place, side_margins, kicking_player, decision_of}
use Rattle.decision.specs.Changed.{changed, changed_places, keeps_heading, ChangedDecision, is_excepted_by, ExceptedBy, SignChangeClaim, MirrorImageClaim}
use Rattle.decision.proofs.Parts.{Parts, parts, accepted_in_range}
use Rattle.decision.proofs.Sides.{team_of_changed, side_margins_changed, side_same, kicking_changed}

-- ---- the changed situation is accepted as the situation is
pub requirements_changed : (a b : Bool) (s : Situation) (xs ys : List Float) → requirements_of (changed a b s) (changed_places a xs) (changed_places b ys) ≡ requirements_of s xs ys
unfolding requirements_of
requirements_changed a b s xs ys =
    ap₂ (λ (p o : Bool). five (field_fits s.field) p o (numbers_fit s.home.goalkeeper s.away.goalkeeper s.restart s.wish) (distance_fits s.penalty_placement_distance))
    (poses_fit_changed a b s.home s.away xs ys) (ball_fits_changed a b s.ball)

pub refusal_changed : (a b : Bool) (s : Situation) (xs ys : List Float) → refusal_of (changed a b s) (changed_places a xs) (changed_places b ys) ≡ refusal_of s xs ys
unfolding refusal_of
refusal_changed a b s xs ys = ap first_refusal (requirements_changed a b s xs ys)

-- ---- the parts of a decision
module _ (a b : Bool) (s : Situation) (xs ys : List Float) (p : Parts s) where
  -- the judgment of the changed situation, the counts being the same
  counted : ball_called (changed a b s) ≡ ball_judgment (changed_game a s.game) s.field (changed_ball a b s.ball) s.last_contact s.restart s.invalid_goals_judged s.ball_rested (players_on_field s.home) (players_on_field s.away)
  unfolding ball_called ball_called_among
  counted =
      ap₂ (λ (m n : ℕ). ball_judgment (changed_game a s.game) s.field (changed_ball a b s.ball) s.last_contact s.restart s.invalid_goals_judged s.ball_rested m n) (count_changed a b s.home) (count_changed a b s.away)

  ball_same : is_excepted_by a s ≡ false → ball_called (changed a b s) ≡ ball_called s
  unfolding ball_called ball_called_among
  ball_same e =
      counted
      ∙ judgment_changed a b s.game s.field s.ball s.last_contact s.restart s.invalid_goals_judged s.ball_rested (players_on_field s.home) (players_on_field s.away) p.located.x_number p.sized e

  ball_differs : ExceptedBy a s → ball_called (changed a b s) ≡ ball_called s → ⊥
  unfolding ball_called ball_called_among
  ball_differs e h =
      judgment_differs a b s.game s.field s.ball s.last_contact s.restart s.invalid_goals_judged s.ball_rested (players_on_field s.home) (players_on_field s.away) p.located.x_number p.sized e (sym counted ∙ h)

  same_team : (side : Side) → team_of s side ≡ team_of_side s.home s.away side
  same_team Home = refl
  same_team Away = refl

  place_same : ChangedPlace a b (ChangedHeading a b (keeps_heading s.wish)) (wished_place s xs ys) (wished_place (changed a b s) (changed_places a xs) (changed_places b ys))
  unfolding wished_place
  place_same = go s.wish p.wish_fits_holds
    where
      go : (w : Wish) → wish_fits w ≡ true → ChangedPlace a b (ChangedHeading a b (keeps_heading w)) (place_for w s xs ys) (place_for w (changed a b s) (changed_places a xs) (changed_places b ys))
      go Nothing h = none
      go BallAtRestart h = ball_at_restart_changed a b (ChangedHeading a b false) s.field s.game s.ball p.located
      go BallInSet h = ball_in_set_changed a b (ChangedHeading a b false) s.field s.game
      go (ForPenalty side n) h =
          sized_place_changed a b s.game.sides s.field s.penalty_placement_distance s.home s.away xs ys side n
          (subst (λ (t : Team). Sizes.Fit s.field (player_numbered t n).pose) (same_team side) (p.place_sizes side n h))
      go (ForPenaltyShot side n) h =
          subst (λ (q : Player). ChangedPlace a b (ChangedHeading a b false) (penalty_shot_place s.game s.field side n (player_numbered (team_of s side) n)) (penalty_shot_place (changed_game a s.game) s.field side n q))
          (sym (ap (λ (t : Team). player_numbered t n) (team_of_changed a b s side) ∙ numbered_changed a b (team_of s side) n))
          (penalty_shot_changed a b (ChangedHeading a b false) s.field (heading_changed a b) s.game side n (player_numbered (team_of s side) n))
      go (Goalkeeper side) h =
          subst (λ (t : Team). ChangedPlace a b (ChangedHeading a b true) (penalty_goalkeeper_place s.game s.field side (team_of s side)) (penalty_goalkeeper_place (changed_game a s.game) s.field side t))
          (sym (team_of_changed a b s side))
          (penalty_goalkeeper_changed a b (ChangedHeading a b true) (λ theta. refl) s.field side s.game (team_of s side) (p.y_fits side))

  kicker_same : kicking_player (changed_game a s.game) (changed_team a b s.home) (changed_team a b s.away) s.field (side_margins (changed a b s) Home) (side_margins (changed a b s) Away)
      ≡ kicking_player s.game s.home s.away s.field (side_margins s Home) (side_margins s Away)
  kicker_same =
      ap₂ (kicking_player (changed_game a s.game) (changed_team a b s.home) (changed_team a b s.away) s.field) (side_margins_changed a b s Home) (side_margins_changed a b s Away)
      ∙ kicking_changed a b s.game s.home s.away s.field (side_margins s Home) (side_margins s Away)

  same : is_excepted_by a s ≡ false → ChangedDecision a b s.wish (decision_of s xs ys) (decision_of (changed a b s) (changed_places a xs) (changed_places b ys))
  unfolding decision_of
  same e = record { home = side_same a b s Home; away = side_same a b s Away; kicker = kicker_same; ball = ball_same e; place = place_same }

  -- the theorem from its parts, both directions: of allowances, reference poses, distance and earlier places nothing is asked
  pub equal_only_if_parts : ChangedDecision a b s.wish (decision_of s xs ys) (decision_of (changed a b s) (changed_places a xs) (changed_places b ys)) → ExceptedBy a s → ⊥
  unfolding decision_of
  equal_only_if_parts d e = ball_differs e d.ball

  pub equal_if_parts : (ExceptedBy a s → ⊥) → ChangedDecision a b s.wish (decision_of s xs ys) (decision_of (changed a b s) (changed_places a xs) (changed_places b ys))
  equal_if_parts n = same (by_test (is_excepted_by a s) (λ x. absurd (n x)) (λ x. x))

-- ---- the theorem
pub changed_decision : SignChangeClaim
changed_decision a b s xs ys f e =
    let p = parts s f (accepted_in_range s xs ys e) in
    record { accepted_too = refusal_changed a b s xs ys ∙ e; equal_only_if = equal_only_if_parts a b s xs ys p; equal_if = equal_if_parts a b s xs ys p }

pub mirror_image : MirrorImageClaim
mirror_image b s xs ys f e = (changed_decision false b s xs ys f e).equal_if (λ x. true≢false (sym x))
