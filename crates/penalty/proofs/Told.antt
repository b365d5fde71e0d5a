-- From what the calls tell to the definitions. Assumes nothing.
use mathlib.Core.Path.{◌≡◌, sym, ap, ◌∙◌}
use mathlib.Core.Bool.{Bool, cond}
use mathlib.Core.List.{List}
use Prim.Native.Nat.{ℕ}
use borrow.Author.Tests.{eq-eqb, ne_eqb}
use lib.ListN.{length}
use lib.Ieee.{Float, neg, lt}
use Rattle.floats.specs.Arithmetic.{◌*₃₂◌, zero32, half, pi}
use Rattle.game.specs.Players.{team_of_side, player_numbered}
use Rattle.game.specs.declared.FieldDimensions.{FieldDimensions}
use Rattle.game.specs.declared.Placement.{Placement}
use Rattle.game.specs.declared.Placement.TheVariants.{NoPlace, PlayerAt}
use Rattle.game.specs.declared.Player.{Player}
use Rattle.game.specs.declared.PlayerPose.{PlayerPose}
use Rattle.game.specs.declared.Side.{Side}
use Rattle.game.specs.declared.SideMapping.{SideMapping}
use Rattle.game.specs.declared.Team.{Team}
use Rattle.geometry.specs.Geometry.{side_to_sign}
use Rattle.clearance.specs.Clearance.{Spot, occupied}
use Rattle.penalty.specs.Penalty.{edge_of, inward, team_place, clear_from, pose_place, seen_place, place_for_penalty}
use Rattle.std.specs.Prelude.{Option, None, Some}

-- the player of one of the two teams
pub player_told : (home away team : Team) (side which : Side) (number : ℕ) (q : Player) → side ≡ which → team ≡ team_of_side home away which → q ≡ player_numbered team number → q ≡ player_numbered (team_of_side home away side) number
player_told home away team side which number q s t e = e ∙ ap (λ (z : Team). player_numbered z number) (t ∙ ap (team_of_side home away) (sym s))

-- the heading, by which way the place is off the middle line
pub heading_told : (y theta : Float) (b : Bool) → lt zero32 y ≡ b → theta ≡ cond b (neg pi *₃₂ half) (pi *₃₂ half) → theta ≡ inward y
heading_told y theta b h e = e ∙ ap (λ (z : Bool). cond z (neg pi *₃₂ half) (pi *₃₂ half)) (sym h)

module _ (sides : SideMapping) (f : FieldDimensions) (d : Float) (home away : Team) (xs ys : List Float) (side : Side) (number : ℕ) where
  -- the place of this player, by the sign of its side and where the others are
  place : Float → Option PlayerPose → Placement
  place sign pose = seen_place f d sign pose (occupied home away side number xs ys) side number

  -- lists of unlike length
  pub place_none : (length xs ≡ length ys → ⊥) → NoPlace ≡ place_for_penalty sides f d home away xs ys side number
  unfolding place_for_penalty
  place_none l =
      ap (λ (z : Bool). cond z (seen_place f d (side_to_sign side sides) (player_numbered (team_of_side home away side) number).pose (occupied home away side number xs ys) side number) NoPlace) (sym (ne_eqb (length xs) (length ys) l))

  module _ (q : Player) (l : length xs ≡ length ys) (n : q ≡ player_numbered (team_of_side home away side) number) where
    found : place (side_to_sign side sides) q.pose ≡ place_for_penalty sides f d home away xs ys side number
    unfolding place_for_penalty place
    found =
        ap (λ (z : Player). place (side_to_sign side sides) z.pose) n
        ∙ ap (λ (z : Bool). cond z (place (side_to_sign side sides) (player_numbered (team_of_side home away side) number).pose) NoPlace) (sym (eq-eqb (length xs) (length ys) l))

    -- an absent player
    pub place_absent : q.pose ≡ None → NoPlace ≡ place_for_penalty sides f d home away xs ys side number
    unfolding place
    place_absent e = ap (place (side_to_sign side sides)) (sym e) ∙ found

    -- one that is present
    pub place_given : (p : PlayerPose) (sign y theta x : Float) → q.pose ≡ Some p → sign ≡ side_to_sign side sides → y ≡ edge_of f p → theta ≡ inward y
        → x ≡ team_place f p.radius d (clear_from sign y (occupied home away side number xs ys)) → PlayerAt side number (sign *₃₂ x) y theta ≡ place_for_penalty sides f d home away xs ys side number
    unfolding place pose_place
    place_given p sign y theta x e s a b c =
        ap (λ (z : Float). PlayerAt side number (sign *₃₂ z) y theta) c
        ∙ ap (λ (z : Float). PlayerAt side number (sign *₃₂ team_place f p.radius d (clear_from sign y spots)) y z) b
        ∙ ap (λ (z : Float). PlayerAt side number (sign *₃₂ team_place f p.radius d (clear_from sign z spots)) z (inward z)) a
        ∙ ap (λ (z : Float). place z (Some p)) s
        ∙ ap (place (side_to_sign side sides)) (sym e)
        ∙ found
      where
        spots : List Spot
        spots = occupied home away side number xs ys
