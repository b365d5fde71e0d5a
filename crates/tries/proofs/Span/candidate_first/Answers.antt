use Rattle.std.proofs.Common.{sym}
use Rattle.tries.specs.Tries.{first_candidate}
use Rattle.tries.proofs.Span.candidate_first.Goals as goal

pub returns-then-crossed : goal.returns-then-crossed
unfolding first_candidate
returns-then-crossed c = simp (sym c.crossed.ensures, c.if-crossed.true)

pub returns : goal.returns
unfolding first_candidate
returns c = simp (sym c.crossed.ensures, c.if-crossed.false, c.clamp.ensures)
