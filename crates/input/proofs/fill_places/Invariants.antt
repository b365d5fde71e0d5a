-- The loop fills the places from the front.
use Rattle.input.proofs.Filled.{Placed}
use Rattle.input.proofs.fill_places.Given as goal

abbrev pub invariant-loop-k : goal.invariant-loop-k
invariant-loop-k l = Placed l.patterns l.initial.places l.n l.k l.places
