use Rattle.std.proofs.Common.{rules, ◌≡◌, refl, sym, ap, ◌∙◌, Bool, false, ◌&&◌}
use Rattle.std.specs.Prelude.{Option, None, Some, MatchOption}
use mathlib.Core.Bool.{and-false}
use Rattle.game.specs.declared.Margins.{Margins}
use Rattle.game.specs.declared.Player.{Player}
use Rattle.excess.specs.Excess.{is_in_goal_area}
use Rattle.excess.proofs.ExcessKeys.{absent}
use Rattle.remembered.specs.declared.Remembered.{Remembered}
use Rattle.penalties.proofs.inside_player.Goals as goal

-- by whether the margins are there, where `post` is what the test of them gives
by_margins : (p : Player) (m : Option Margins) (unpenalized inside : Bool) (post : Margins → Type 0) →
    MatchOption m (inside ≡ false) post → ((x : Margins) → post x → (unpenalized && inside) ≡ is_in_goal_area p (Some x)) → (unpenalized && inside) ≡ is_in_goal_area p m
by_margins p None unpenalized inside post h seen = ap (λ (b : Bool). unpenalized && b) h ∙ and-false unpenalized ∙ sym (absent p None refl)
by_margins p (Some x) unpenalized inside post h seen = seen x h

pub returns : goal.returns
unfolding is_in_goal_area
returns c =
    let made : Bool → Remembered =
    λ b. record {
      returning = c.args.r.returning;
      return_allowance = c.args.r.return_allowance;
      left_avoidance = c.args.r.left_avoidance;
      in_goal_area = b;
      present = c.args.r.present;
    }
    in
    ap made (by_margins c.args.player c.args.margins _ _ _ c.is_some_and-inside.ensures (λ x h. search rules))
