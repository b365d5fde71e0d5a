-- The fast path: the two tests certify the guess.
use Rattle.std.proofs.Common.{◌≡◌, ℕ, ◌%◌, ◌<◌, ◌≤◌, max, not, T, sym, ap, ◌∙◌, subst, arith, leb→le}
use lib.Ieee.{Float, binary32, binary64, mul, is_nan, to_bits, of_bits}
use lib.Ieee.Fits.{add-fits}
use Rattle.lists.proofs.Bools.{holds}
use Rattle.floats.proofs.Nan.{number_bits, equals_itself}
use Rattle.hypot.proofs.Root.Plus.{Plus, no_nan, square_plus, add_plus, plus_bits}
use Rattle.hypot.proofs.Root.Values.{shape, finite, root_no_nan}
use Rattle.hypot.proofs.Root.Far.{number_pattern, far_apart}
use Rattle.hypot.proofs.Root.Sure.{total, guess_number, sure}
use Rattle.hypot.proofs.hypot.Goals as goal

-- the sum is a number whose pattern has the sign's bit off
summed : (x y s : Float) → s ≡ total x y → T (not (is_nan x)) → T (not (is_nan y)) → T (not (is_nan s)) × (to_bits binary64 s < 9223372036854775808)
summed x y s e p q =
    let h : Plus (total x y) = add_plus binary64 (mul binary64 x x) (mul binary64 y y) (square_plus binary64 x p) (square_plus binary64 y q) in
    subst (λ (z : Float). T (not (is_nan z)) × (to_bits binary64 z < 9223372036854775808)) (sym e)
    (no_nan (total x y) h, plus_bits binary64 (total x y) (add-fits binary64 (mul binary64 x x) (mul binary64 y y)) h)

-- each pattern of a number is at most the infinity's
most : (p q hi : ℕ) → hi ≡ max p q → p ≤ 0x7f80_0000 → q ≤ 0x7f80_0000 → hi % 2147483648 ≤ 0x7f80_0000
most p q hi e h k = omega arith

pub float_from_bits-result : goal.float_from_bits-result
float_from_bits-result c =
    let left = shape c.args.x (subst T (sym c.well_formed.0.1) tt) in
    let right = shape c.args.y (subst T (sym c.well_formed.1.0.1) tt) in
    number_bits binary32 _
    (most _ _ _ c.max.ensures (number_pattern _ _ left (equals_itself _ c.if-x.true)) (number_pattern _ _ right (equals_itself _ c.if-y.true)))

pub returns-then-far_apart : goal.returns-then-far_apart
returns-then-far_apart c =
    let left = shape c.args.x (subst T (sym c.well_formed.0.1) tt) in
    let right = shape c.args.y (subst T (sym c.well_formed.1.0.1) tt) in
    far_apart _ _ _ _ _ left right (number_pattern _ _ left (equals_itself _ c.if-x.true)) (number_pattern _ _ right (equals_itself _ c.if-y.true)) c.max.ensures
    (leb→le _ _ (holds _ (sym c.far_apart.ensures ∙ c.if-far_apart.true)))

pub float_from_bits-result-then-p-q-le16777216 : goal.float_from_bits-result-then-p-q-le16777216
float_from_bits-result-then-p-q-le16777216 c = root_no_nan _ _ c.nearest_whole.ensures

pub returns-then-p-q-le16777216 : goal.returns-then-p-q-le16777216
returns-then-p-q-le16777216 c =
    let left = shape c.args.x (subst T (sym c.well_formed.0.1) tt) in
    let right = shape c.args.y (subst T (sym c.well_formed.1.0.1) tt) in
    ap (of_bits binary32) c.nearest_whole.ensures ∙ finite _ _ _ _ left right (omega (arith, c.if-p-q-le16777216.true)) (omega (arith, c.if-p-q-le16777216.true))

pub estimate-r-requires : goal.estimate-r-requires
estimate-r-requires c = summed _ _ _ c.sum_of_squares-s.ensures (equals_itself _ c.if-x.true) (equals_itself _ c.if-y.true)

pub float_to_bits-r : goal.float_to_bits-r
float_to_bits-r c = guess_number _ _ c.if-s-t.true

pub float_from_bits-result-then-below : goal.float_from_bits-result-then-below
float_from_bits-result-then-below c = number_bits binary32 _ (omega arith)

pub returns-then-below : goal.returns-then-below
unfolding of_bits
returns-then-below c =
    sure c.args.x c.args.y c.sum_of_squares-s.result c.estimate-r.result c.wrapping_add_u64-b.result
    (subst T (sym c.well_formed.0.1) tt) (subst T (sym c.well_formed.1.0.1) tt) (equals_itself _ c.if-x.true) (equals_itself _ c.if-y.true)
    c.sum_of_squares-s.ensures c.if-p-q-le16777216.false c.estimate-r.ensures c.wrapping_add_u64-b.ensures.value
    c.if-m-ge1200000.true c.if-m-le4293767296.true c.if-below.true
    c.if-s-t.true c.if-t-s.true
