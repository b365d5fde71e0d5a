-- Case by case, by the patterns.
use Rattle.std.proofs.Common.{◌≡◌, ℕ, ◌+◌, ◌-◌, ◌*◌, ◌%◌, ◌^◌, ◌<◌, ◌≤◌, T, refl, sym, ap, ◌∙◌, subst, arith}
use lib.Ieee.{nan, binary32, of_bits, to_bits}
use Rattle.floats.specs.Units.{exponent_of, significand_of, units_in}
use Rattle.floats.proofs.Whole.{part, past_x, past_y, y_zero, y_infinite, smaller, larger}
use Rattle.floats.proofs.remainder.remainder.Goals as goal

-- the pattern that is written for a NaN
written : of_bits binary32 0x7fc0_0000 ≡ nan
written = unfold of_bits in refl

pub returns-then-p-ge2139095040 : goal.returns-then-p-ge2139095040
returns-then-p-ge2139095040 c =
    c.from_bits.ensures ∙ written ∙ past_x c.args.x c.args.y (subst T (sym c.well_formed.0.1) tt) (omega (arith, c.bits-b.ensures, c.if-p-ge2139095040.true))

pub returns-then-q-gt2139095040 : goal.returns-then-q-gt2139095040
returns-then-q-gt2139095040 c =
    c.from_bits-then-q-gt2139095040.ensures ∙ written ∙ past_y c.args.x c.args.y (subst T (sym c.well_formed.1.0.1) tt) (omega (arith, c.bits-q.ensures, c.if-q-gt2139095040.true))

pub returns-then-q-eq0 : goal.returns-then-q-eq0
returns-then-q-eq0 c =
    c.from_bits-then-q-eq0.ensures ∙ written ∙ y_zero c.args.x c.args.y (subst T (sym c.well_formed.1.0.1) tt) (omega (arith, c.bits-q.ensures, c.if-q-eq0.true))

pub returns-then-q-eq2139095040 : goal.returns-then-q-eq2139095040
returns-then-q-eq2139095040 c =
    y_infinite c.args.x c.args.y (subst T (sym c.well_formed.1.0.1) tt) (omega (arith, c.bits-b.ensures, c.if-p-ge2139095040.false)) (omega (arith, c.bits-q.ensures, c.if-q-eq2139095040.true))

pub returns-then-g-h : goal.returns-then-g-h
returns-then-g-h c =
    let before : exponent_of (part c.args.x) < exponent_of (part c.args.y) = omega (arith, c.bits-b.ensures, c.bits-q.ensures, c.saturating_sub-g.ensures, c.saturating_sub-h.ensures, c.if-g-h.true) in
    smaller c.args.x c.args.y (subst T (sym c.well_formed.0.1) tt) (subst T (sym c.well_formed.1.0.1) tt) (omega (arith, c.bits-b.ensures, c.if-p-ge2139095040.false))
    (omega (arith, c.bits-q.ensures, c.if-q-gt2139095040.false, c.if-q-eq2139095040.false)) before

pub returns : goal.returns
returns c =
    let x = c.args.x in
    let y = c.args.y in
    let p_is : c.bits-b.result % 2147483648 ≡ part x = ap (λ (z : ℕ). z % 2147483648) c.bits-b.ensures in
    let q_is : c.bits-q.result % 2147483648 ≡ part y = ap (λ (z : ℕ). z % 2147483648) c.bits-q.ensures in
    let g_is : c.saturating_sub-g.result ≡ exponent_of (part x) = c.saturating_sub-g.ensures ∙ ap exponent_of p_is in
    let h_is : c.saturating_sub-h.result ≡ exponent_of (part y) = c.saturating_sub-h.ensures ∙ ap exponent_of q_is in
    let r_is : c.shifted_remainder-r.result ≡ significand_of (part x) * 2 ^ (exponent_of (part x) - exponent_of (part y)) % significand_of (part y) = cc (c.shifted_remainder-r.ensures, p_is, q_is, g_is, h_is) in
    let value : units_in c.pattern_of.result ≡ c.shifted_remainder-r.result * 2 ^ exponent_of (part y) = c.pattern_of.ensures.1 ∙ ap (λ (z : ℕ). c.shifted_remainder-r.result * 2 ^ z) h_is in
    let moved : c.bits-b.result - c.bits-b.result % 2147483648 + c.pattern_of.result ≡ to_bits binary32 x - part x + c.pattern_of.result = ap (λ (z : ℕ). z - z % 2147483648 + c.pattern_of.result) c.bits-b.ensures in
    let in_order : exponent_of (part y) ≤ exponent_of (part x) = omega (arith, g_is, h_is, c.if-g-h.false) in
    c.from_bits-2.ensures
    ∙ ap (of_bits binary32) moved
    ∙ larger x y c.shifted_remainder-r.result c.pattern_of.result (subst T (sym c.well_formed.0.1) tt) (subst T (sym c.well_formed.1.0.1) tt) (omega (arith, p_is, c.if-p-ge2139095040.false))
    (omega (arith, q_is, c.if-q-gt2139095040.false, c.if-q-eq2139095040.false)) (λ e. c.if-q-eq0.false (q_is ∙ e)) in_order r_is c.pattern_of.ensures.0 value
