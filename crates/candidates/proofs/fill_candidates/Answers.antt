-- On a refusal nothing is written, and the answer is empty. Else the first candidate is stored, the rest of the list is lent from its second place on and comes back with its
-- front filled, and what stands at the front then is the answer.
use Rattle.std.proofs.Common.{◌+◌, ◌∷◌, List, length, sym, ap, arith}
use lib.Ieee.{Float}
use Rattle.lists.specs.Gather.{flat_to}
use Rattle.lists.specs.Put.{fronted}
use Rattle.spacing.specs.Spacing.{places_at}
use Rattle.tries.proofs.CandidatesList.{held}
use Rattle.candidates.specs.Candidates.{answer_of}
use Rattle.candidates.proofs.CandidatesFill.{fill_rest, filled_as}
use Rattle.candidates.proofs.CandidatesAnswer.{refused_empty, answer_filled}
use Rattle.candidates.proofs.fill_candidates.Goals as goal

pub returns : goal.returns
returns c =
    let a = c.args in
    let s = a.span in
    let f = held s c.well_formed.0.1.1 in
    let w = c.walk-w in
    let first = c.candidate_first-first.result in
    let p = answer_filled s.start s.min s.max s.step f w.result.count (length a.list.now) w.ensures.1
    c.unfit-refused.result first w.result.turns c.unfit-refused.ensures c.if-nothing.false c.candidate_first-first.ensures w.ensures.0 in
    let l = flat_to w.result.turns (places_at first s.min s.max s.step) in
    let call = c.fill_turns-n in
    let r = filled_as (first ∷ l) (answer_of s.start s.min s.max s.step (length a.list.now)) a.list.now _ (call.result + 1)
    p.1 (omega (arith, call.ensures.value)) (fill_rest a.list.now l call.new.list first (omega (arith, p.0)) call.ensures.list_after) in
    record { value = r.0; list_after = r.1 }

pub returns-then-nothing : goal.returns-then-nothing
unfolding fronted
returns-then-nothing c =
    let a = c.args in
    let s = a.span in
    let f = held s c.well_formed.0.1.1 in
    let e = refused_empty s.start s.min s.max s.step f c.walk-w.result.count (length a.list.now) c.walk-w.ensures.1 c.unfit-refused.result c.unfit-refused.ensures c.if-nothing.true in
    record { value = ap length (sym e); list_after = ap (λ (l : List Float). fronted l a.list.now) (sym e) }
