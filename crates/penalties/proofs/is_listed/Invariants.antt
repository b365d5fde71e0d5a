-- The loop's answer so far is that of the places passed.
use Rattle.std.proofs.Common.{◌≡◌, ◌&&◌, get_or, nat_lt, nat_eq}
use Rattle.penalties.specs.Penalties.{some_to}
use Rattle.penalties.proofs.is_listed.Given as goal

abbrev pub invariant-loop-i : goal.invariant-loop-i
invariant-loop-i l = l.found ≡ some_to l.i (λ k. nat_lt k l.list.count && nat_eq (get_or l.list.numbers k 0) l.number)
