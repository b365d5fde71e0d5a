-- The part that is returned starts where the lent list does, and is the front that was filled.
use Rattle.std.proofs.Common.{length}
use Rattle.candidates.specs.Candidates.{answer_of}
use Rattle.candidates.proofs.CandidatesFill.{front_is, front_length}
use Rattle.candidates.proofs.penalty_placement_candidates.Goals as goal

pub slice_bounds-result-end : goal.slice_bounds-result-end
slice_bounds-result-end c =
    let a = c.args in
    let s = a.span in
    let call = c.fill_candidates-n in
    front_length (answer_of s.start s.min s.max s.step (length a.list.now)) a.list.now call.new.list call.result call.ensures.value call.ensures.list_after

pub returns-clause-result_value : goal.returns-clause-result_value
returns-clause-result_value c =
    let a = c.args in
    let s = a.span in
    let call = c.fill_candidates-n in
    front_is (answer_of s.start s.min s.max s.step (length a.list.now)) a.list.now call.new.list call.result call.ensures.value call.ensures.list_after
