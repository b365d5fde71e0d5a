-- No list of a decision has more than 20 players. Assumes nothing.
use mathlib.Core.Bool.{Bool, true, false, cond}
use mathlib.Core.List.{List}
use Prim.Native.Nat.{ℕ, ◌+◌, ◌-◌, ◌≤◌}
use native.Mathlib.Omega.{arith}
use Rattle.lists.proofs.Table.{length_table}
use Rattle.game.specs.Game.{is_playing}
use Rattle.game.specs.Players.{player_at, listed, number_at, numbers_where}
use Rattle.game.specs.declared.FieldDimensions.{FieldDimensions}
use Rattle.game.specs.declared.Game.{Game}
use Rattle.game.specs.declared.Team.{Team}
use Rattle.game.proofs.Listing.{few}
use Rattle.excess.specs.Excess.{in_goal_area, inside, named, allowed, goal_area_excess}
use Rattle.lists.proofs.Counting.{count_le}
use Rattle.motion.specs.Motion.{has_moved, moved_players}
use Rattle.decision.specs.Decision.{is_leaving, leaving_players, is_excess_asked, empty_list, team_excess}
use Rattle.std.specs.Prelude.{Option}
use Rattle.game.specs.declared.Margins.{Margins}

numbers_few : (b : ℕ → Bool) → (numbers_where b).count ≤ 20
unfolding numbers_where listed
numbers_few b = few b number_at 20

pub moved_few : (t : Team) → (moved_players t).count ≤ 20
unfolding moved_players
moved_few t = numbers_few (λ i. has_moved (player_at t i))

pub leaving_few : (t : Team) (f : FieldDimensions) → (leaving_players t f).count ≤ 20
unfolding leaving_players
leaving_few t f = numbers_few (λ i. is_leaving (player_at t i) f)

area_few : (t : Team) (m : List (Option Margins)) (prefer : Bool) → (goal_area_excess t m prefer).count ≤ 20
unfolding goal_area_excess listed inside
area_few t m prefer = omega (arith, length_table (inside t m - allowed) (λ k. named t m prefer k + 1), count_le 20 (in_goal_area t m))

pub excess_few : (g : Game) (t : Team) (m : List (Option Margins)) → (team_excess g t m).count ≤ 20
unfolding team_excess empty_list listed
excess_few g t m = go (is_excess_asked g)
  where
    go : (asked : Bool) → (cond asked (goal_area_excess t m (is_playing g.state)) empty_list).count ≤ 20
    go true = area_few t m (is_playing g.state)
    go false = omega arith
