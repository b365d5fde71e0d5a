use Rattle.std.proofs.Common.{ℕ, ◌+◌, sym, ap, ◌∙◌}
use Rattle.hypot.specs.Hypot.{units_of, square, nearest_root}
use Rattle.hypot.proofs.Root.Far.{alone}
use Rattle.hypot.proofs.Root.Whole.{near, far}
use Rattle.hypot.proofs.exact.nearest.Goals as goal

pub returns-then-q-eq0 : goal.returns-then-q-eq0
returns-then-q-eq0 c = alone c.args.p c.requires.1 ∙ ap (λ (q : ℕ). nearest_root (square (units_of c.args.p) + square (units_of q))) (sym c.if-q-eq0.true)

pub returns-then-far : goal.returns-then-far
returns-then-far c = far c.args.p c.args.q c.saturating_sub-e.result c.saturating_sub-g.result c.saturating_sub-e.ensures c.saturating_sub-g.ensures c.requires.0 c.requires.1 c.if-far.true

pub returns : goal.returns
returns c =
    near c.args.p c.args.q c.saturating_sub-e.result c.saturating_sub-g.result c.saturating_sub-e.ensures c.saturating_sub-g.ensures c.requires.0 c.requires.1
    c.rooted-r.result.t c.rooted-r.result.x c.packed.result c.rooted-r.ensures c.packed.ensures
