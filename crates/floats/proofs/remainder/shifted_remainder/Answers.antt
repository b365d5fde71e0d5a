use Rattle.std.proofs.Common.{◌≡◌, ℕ, ◌+◌, ◌-◌, ◌*◌, ◌%◌, ◌^◌, ◌<◌, ap, ◌∙◌, mod-lt, subst, sym, arith}
use Rattle.floats.proofs.Whole.{step, shifted_up}
use Rattle.floats.proofs.remainder.shifted_remainder.Goals as goal

pub loop-left-preserved : goal.loop-left-preserved
loop-left-preserved c =
    let k = c.args.k in
    let left = c.loop-left.left in
    let next : k - (left - 32) ≡ k - left + 32 = omega (arith, c.loop-left.invariant.0) in
    (omega arith, ap (λ (z : ℕ). z * 2 ^ 32 % c.args.b) c.loop-left.invariant.1 ∙ step c.args.a c.args.b (k - left) 32 (k - (left - 32)) next)

pub returns : goal.returns
returns c =
    let k = c.args.k in
    let left = c.loop-left.left in
    let small : c.loop-left.r < 16777216 = omega (arith, subst (λ (z : ℕ). z < c.args.b) (sym c.loop-left.invariant.1) (mod-lt (c.args.a * 2 ^ (k - left)) c.requires.1)) in
    let all : k ≡ k - left + left = omega (arith, c.loop-left.invariant.0) in
    ap (λ (z : ℕ). z % c.args.b) (shifted_up c.loop-left.r left small (omega arith))
    ∙ ap (λ (z : ℕ). z * 2 ^ left % c.args.b) c.loop-left.invariant.1
    ∙ step c.args.a c.args.b (k - left) left k all
