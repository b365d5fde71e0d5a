-- There are at most 8192 turns, so the tries fit.
use Rattle.std.proofs.Common.{arith}
use Rattle.tries.proofs.CandidatesList.{few_turns}
use Rattle.tries.proofs.Span.candidate_tries.Goals as goal

pub overflow_mul-result : goal.overflow_mul-result
overflow_mul-result c = let a = c.args.self in omega (arith, c.walk-w.ensures.0, few_turns a.start a.min a.max a.step)
