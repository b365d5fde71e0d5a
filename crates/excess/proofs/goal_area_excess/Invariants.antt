-- After k turns the first k are named, and k keys are below `from`.
use Rattle.std.proofs.Common.{◌≡◌, ◌+◌, get_or}
use Rattle.lists.specs.Ranking.{ranked}
use Rattle.lists.specs.Table.{filled}
use Rattle.keys.specs.Keys.{has_key, lower_key, keys_below}
use Rattle.excess.proofs.goal_area_excess.Given as goal

abbrev pub invariant-loop-k : goal.invariant-loop-k
invariant-loop-k l =
    (l.numbers ≡ filled (λ k. ranked 20 (has_key (λ j. get_or l.keys j 0)) (lower_key (λ j. get_or l.keys j 0)) k + 1) l.initial.numbers l.k)
    × (keys_below (λ j. get_or l.keys j 0) l.from ≡ l.k)
