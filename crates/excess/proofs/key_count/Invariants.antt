-- After i turns the count is that of the keys below i.
use Rattle.std.proofs.Common.{◌≡◌, get_or}
use Rattle.lists.specs.Counting.{count_to}
use Rattle.keys.specs.Keys.{has_key}
use Rattle.excess.proofs.key_count.Given as goal

abbrev pub invariant-loop-i : goal.invariant-loop-i
invariant-loop-i l = l.n ≡ count_to l.i (has_key (λ k. get_or l.keys k 0))
