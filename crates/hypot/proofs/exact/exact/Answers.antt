use Rattle.std.proofs.Common.{◌≡◌, ℕ, ◌%◌, ◌<◌, ◌≤◌, max, T, sym, ap, ◌∙◌, subst, arith}
use lib.Ieee.{Float, binary32, of_bits, to_bits, fits}
use Rattle.hypot.specs.Hypot.{nearest_root}
use Rattle.floats.proofs.Nan.{number_bits}
use Rattle.hypot.proofs.Root.Values.{Shape, shape, left_infinite, right_infinite, left_nan, right_nan, finite, root_no_nan}
use Rattle.hypot.proofs.Root.Far.{either_order}
use Rattle.hypot.proofs.exact.exact.Goals as goal

shaped : (x : Float) (b : ℕ) → b ≡ to_bits binary32 x → T (fits binary32 x) → Shape x (b % 2147483648)
shaped x b e f = subst (λ (p : ℕ). Shape x (p % 2147483648)) (sym e) (shape x f)

pub float_from_bits-result : goal.float_from_bits-result
float_from_bits-result c = root_no_nan _ _ c.nearest.ensures

pub returns-then-hi-lt2139095040 : goal.returns-then-hi-lt2139095040
returns-then-hi-lt2139095040 c =
    let p = c.bits-p.result % 2147483648 in
    let q = c.bits-q.result % 2147483648 in
    ap (of_bits binary32) (c.nearest.ensures ∙ ap nearest_root (either_order p q _ _ c.max-hi.ensures c.min-lo.ensures))
    ∙ finite _ _ p q (shaped _ _ c.bits-p.ensures (subst T (sym c.well_formed.0.1) tt)) (shaped _ _ c.bits-q.ensures (subst T (sym c.well_formed.1.0.1) tt))
    (omega (arith, c.if-hi-lt2139095040.true, c.max-hi.ensures)) (omega (arith, c.if-hi-lt2139095040.true, c.max-hi.ensures))

pub float_from_bits-result-then-p-eq2139095040 : goal.float_from_bits-result-then-p-eq2139095040
float_from_bits-result-then-p-eq2139095040 c = number_bits binary32 _ (omega arith)

pub returns-then-p-eq2139095040 : goal.returns-then-p-eq2139095040
returns-then-p-eq2139095040 c = left_infinite _ _ _ (shaped _ _ c.bits-p.ensures (subst T (sym c.well_formed.0.1) tt)) c.if-p-eq2139095040.true

pub float_from_bits-result-then-q-eq2139095040 : goal.float_from_bits-result-then-q-eq2139095040
float_from_bits-result-then-q-eq2139095040 c = number_bits binary32 _ (omega arith)

pub returns-then-q-eq2139095040 : goal.returns-then-q-eq2139095040
returns-then-q-eq2139095040 c = right_infinite _ _ _ (shaped _ _ c.bits-q.ensures (subst T (sym c.well_formed.1.0.1) tt)) c.if-q-eq2139095040.true

pub returns-then-p-gt2139095040 : goal.returns-then-p-gt2139095040
returns-then-p-gt2139095040 c =
    left_nan _ _ _ _ (shaped _ _ c.bits-p.ensures (subst T (sym c.well_formed.0.1) tt)) (shaped _ _ c.bits-q.ensures (subst T (sym c.well_formed.1.0.1) tt))
    c.if-q-eq2139095040.false c.if-p-gt2139095040.true

pub returns : goal.returns
returns c =
    right_nan _ _ _ _ (shaped _ _ c.bits-p.ensures (subst T (sym c.well_formed.0.1) tt)) (shaped _ _ c.bits-q.ensures (subst T (sym c.well_formed.1.0.1) tt))
    c.if-p-eq2139095040.false
    (rest (c.bits-p.result % 2147483648) (c.bits-q.result % 2147483648) c.max-hi.result c.max-hi.ensures c.if-hi-lt2139095040.false c.if-p-eq2139095040.false c.if-q-eq2139095040.false c.if-p-gt2139095040.false)
  where
    rest : (p q hi : ℕ) → hi ≡ max p q → 0x7f80_0000 ≤ hi → (p ≡ 0x7f80_0000 → ⊥) → (q ≡ 0x7f80_0000 → ⊥) → p ≤ 0x7f80_0000 → 0x7f80_0000 < q
    rest p q hi e h a b d = omega arith
