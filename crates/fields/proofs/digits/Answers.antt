use Rattle.std.proofs.Common.{ℕ, ◌≡◌, ◌+◌, ◌-◌, ◌*◌, ap, sym, ◌∙◌, arith, get_or}
use Rattle.std.proofs.Math.Seq.{slice, slice_empty}
use Rattle.fields.proofs.Walks.{digit_turn, other_turn, large_on, digits_end}
use Rattle.fields.proofs.digits.Goals as goal

pub returns-then-not-is_digit : goal.returns-then-not-is_digit
returns-then-not-is_digit c =
    other_turn c.args.text.now c.loop-i.i c.args.end c.loop-i.v c.loop-i-test.true c.requires.2 c.if-not-is_digit.true ∙ c.loop-i.invariant.1

pub returns-then-too_large : goal.returns-then-too_large
returns-then-too_large c =
    sym (large_on (10 * c.loop-i.v + (get_or c.args.text.now c.loop-i.i 0 - 48)) (slice (c.loop-i.i + 1) c.args.end c.args.text.now) (omega (arith, c.if-too_large.true)))
    ∙ digit_turn c.args.text.now c.loop-i.i c.args.end c.loop-i.v c.loop-i-test.true c.requires.2 c.if-not-is_digit.false
    ∙ c.loop-i.invariant.1

pub loop-i-preserved : goal.loop-i-preserved
loop-i-preserved c = (
  c.if-too_large.false,
  digit_turn c.args.text.now c.loop-i.i c.args.end c.loop-i.v c.loop-i-test.true c.requires.2 c.if-not-is_digit.false ∙ c.loop-i.invariant.1,
)

pub returns : goal.returns
returns c =
    let done : c.loop-i.i ≡ c.args.end = omega arith in
    digits_end c.loop-i.v (slice c.loop-i.i c.args.end c.args.text.now)
    (ap (λ (k : ℕ). slice k c.args.end c.args.text.now) done ∙ slice_empty c.args.end c.args.text.now) c.loop-i.invariant.0
    ∙ c.loop-i.invariant.1
