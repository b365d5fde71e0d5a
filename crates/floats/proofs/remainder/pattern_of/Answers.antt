use Rattle.std.proofs.Common.{ℕ, ◌*◌, ◌^◌, ap, sym, ◌∙◌, zero-mul, arith}
use Rattle.floats.specs.Units.{units_in}
use Rattle.floats.proofs.Whole.{both, doubled, settled, units_at}
use Rattle.floats.proofs.remainder.pattern_of.Goals as goal

pub returns-then-r-eq0 : goal.returns-then-r-eq0
unfolding units_in
returns-then-r-eq0 c = (omega arith, sym (ap (λ (z : ℕ). z * 2 ^ c.args.h) c.if-r-eq0.true ∙ zero-mul (2 ^ c.args.h)))

pub loop-s-preserved : goal.loop-s-preserved
loop-s-preserved c =
    let room = both c.loop-s.s c.loop-s.e c.loop-s-test.true in
    (omega (arith, room.0), omega (arith, room.1, c.loop-s.invariant.1), doubled c.loop-s.s c.loop-s.e _ (omega (arith, room.1)) ∙ c.loop-s.invariant.2)

pub returns : goal.returns
returns c = (
  omega (arith, c.loop-s.invariant.0, c.loop-s.invariant.1),
  units_at c.loop-s.e c.loop-s.s (settled c.loop-s.s c.loop-s.e c.loop-s-test.false) c.loop-s.invariant.0 ∙ c.loop-s.invariant.2,
)
