-- Where there is a walk, the laws of floats about the places hold of it.
use Rattle.std.proofs.Common.{sym, subst, ◌∙◌}
use Rattle.floats.specs.Values.{Within}
use Rattle.tries.proofs.CandidatesList.{held, walks_told, walks_walkable, first_clamped, walk_told, no_walk_told}
use Rattle.tries.proofs.Span.walk.Goals as goal

pub walk_from-requires : goal.walk_from-requires
walk_from-requires c =
    let a = c.args.self in
    let f = held a c.well_formed.0.1.1 in
    let w = walks_walkable a.start a.min a.max a.step f
    (walks_told a.start a.min a.max a.step f _ _ _ c.crossed-bad_bounds.ensures c.unfit-refused.ensures c.if-bad_bounds-refused.true) in
    (subst Within (sym (c.candidate_first-first.ensures ∙ first_clamped a.start a.min a.max a.step f w.ordered)) w.first, w.low, w.high, w.stride)

pub returns-then-bad_bounds-refused : goal.returns-then-bad_bounds-refused
returns-then-bad_bounds-refused c =
    let a = c.args.self in
    let f = held a c.well_formed.0.1.1 in
    walk_told a.start a.min a.max a.step f c.candidate_first-first.result c.walk_from.result.turns c.walk_from.result.count
    (walks_told a.start a.min a.max a.step f _ _ _ c.crossed-bad_bounds.ensures c.unfit-refused.ensures c.if-bad_bounds-refused.true) c.candidate_first-first.ensures c.walk_from.ensures.0 c.walk_from.ensures.1

pub returns : goal.returns
returns c =
    let a = c.args.self in
    let f = held a c.well_formed.0.1.1 in
    no_walk_told a.start a.min a.max a.step f (walks_told a.start a.min a.max a.step f _ _ _ c.crossed-bad_bounds.ensures c.unfit-refused.ensures c.if-bad_bounds-refused.false)
