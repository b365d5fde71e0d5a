use Rattle.clearance.specs.Clearance.{occupied}
use Rattle.penalty.proofs.Turns.{try_taken, try_left}
use Rattle.penalty.proofs.after_try.Goals as goal

pub returns-then-is_candidate : goal.returns-then-is_candidate
returns-then-is_candidate c =
    let a = c.args in
    let spots = occupied a.home a.away a.side a.number a.earlier.xs.now a.earlier.ys.now in
    try_taken a.search spots a.j a.choice c.candidate_at-x.result c.is_candidate.result c.candidate_at-x.ensures c.is_candidate.ensures c.clearance-c.result c.considered.result c.if-is_candidate.true
    c.clearance-c.ensures c.considered.ensures

pub returns : goal.returns
returns c =
    let a = c.args in
    let spots = occupied a.home a.away a.side a.number a.earlier.xs.now a.earlier.ys.now in
    try_left a.search spots a.j a.choice c.candidate_at-x.result c.is_candidate.result c.candidate_at-x.ensures c.is_candidate.ensures c.if-is_candidate.false
