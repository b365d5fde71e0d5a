-- Rounded results by their heights: where a sum, a difference or a product of finite values lies, that it grows with its operands, where it is exact, and how far it can be off.
-- Assumes nothing.
use mathlib.Core.Path.{◌≡◌, refl, sym, ap, ap₂, ◌∙◌, subst}
use mathlib.Core.Logic.{◌⊎◌, inl, inr}
use mathlib.Core.Bool.{Bool, true, false, not, ◌&&◌, beq, cond}
use Prim.Native.Nat.{ℕ, zero, suc, ◌+◌, ◌-◌, ◌*◌, ◌/◌, ◌^◌, ◌≤◌, ◌<◌, zero-le, min}
use native.Mathlib.Nat.{lt_of_lt_of_le, lt_of_le_of_lt, one-mul, le_antisymm, le_trans, le_of_eq, mul_assoc, mul_comm, mul_right_comm, mul-pos, mul-sub, add-mul, mul-div_cancel, eq-zero-or-pos}
use native.Mathlib.Omega.{arith}
use borrow.Author.Tests.{ltb-true, ltb-false, leb-true, leb-false, le-leb, lt-leb}
use lib.IntN.{ℤ}
use lib.Dec.{T, leb, ltb, lit<, lit≤}
use lib.Pow.{pow_pos, pow_mono}
use lib.Ieee.{Float, nan, inf, fin, Format, binary32, prec, emax, low, up, down, odd, units, round, neg, sum, add, sub, le, fits, is_nan}
use lib.Ieee.Fits.{two, round_is, add-fits, down_pos, neg-fits}
use lib.Ieee.Exact.{HasValue, odd_sign}
use lib.Ieee.Order.{kept, drop}
use Rattle.floats.specs.Values.{Alike, Number, Finite}
use Rattle.floats.specs.Height.{mid, height, mag}
use Rattle.floats.specs.Near.{near, spare, Near, apart}
use Rattle.floats.proofs.Laws.Signs.{le_neg, add_comm_f, sub_is_add}
use Rattle.floats.proofs.Laws.Height.{mid_pos, mag_below, mag_whole, mag_shape, height_top, height_neg, height_same, fits_digits, fin_height, Scaled, lt_up, gt_up, eq_up}
use Rattle.floats.proofs.Laws.Order.{le→≤, ≤→le, neg_number, le_numbers, number}
use Rattle.floats.proofs.Laws.Near.{grid_near, near_mono, near_exact, near_off, near_within}

-- ---- w units above or below zero, capped at the infinities
abbrev pub above : Format → ℕ → ℕ
above f w = mid f + min w (mid f)

abbrev pub under : Format → ℕ → ℕ
under f w = mid f - w

value_height : (f : Format) (x : Float) (s : Bool) (w : ℕ) → HasValue x s w (2 ^ low f) → height f x ≡ cond s (mid f - w) (mid f + w)
unfolding height
value_height f nan s w v = absurd v
value_height f (inf t) s w v = absurd v
value_height f (fin t m e) s w v = go t s v.0
  where
    is : mag f m e ≡ w
    is = ap (λ (z : ℕ). z / down e) v.1 ∙ mul-div_cancel w (down_pos e)

    go : (t s : Bool) → t ≡ s → height f (fin t m e) ≡ cond s (mid f - w) (mid f + w)
    go true true h = ap (λ (z : ℕ). mid f - z) is
    go false false h = ap (λ (z : ℕ). mid f + z) is
    go true false h = absurd (subst T h tt)
    go false true h = absurd (subst T (sym h) tt)

pub within : (q M : ℕ) → q < M → M + q ≡ M + min q M
within q M h = omega arith

beyond : (q M : ℕ) → M ≤ q → M + M ≡ M + min q M
beyond q M h = omega arith

beneath : (q M : ℕ) → M ≤ q → 0 ≡ M - q
beneath q M h = omega arith

overflow_is : (f : Format) → mid f ≡ 2 ^ (low f + suc (emax f))
unfolding mid
overflow_is f = refl

inf_height : (f : Format) (s : Bool) → height f (inf s) ≡ cond s 0 (mid f + mid f)
unfolding height
inf_height f true = refl
inf_height f false = refl

pub units_height : (f : Format) (s : Bool) (q k : ℕ) → height f (units f s q k) ≡ cond s (under f (q * 2 ^ k)) (above f (q * 2 ^ k))
unfolding units
units_height f s q k = subst (λ (M : ℕ). height f (cond (ltb (q * 2 ^ k) M) (odd (suc (prec f)) s q k (low f)) (inf s)) ≡ cond s (mid f - q * 2 ^ k) (mid f + min (q * 2 ^ k) (mid f))) (overflow_is f) (go s (ltb (q * 2 ^ k) (mid f)) refl)
  where
    go : (s b : Bool) → ltb (q * 2 ^ k) (mid f) ≡ b → height f (cond b (odd (suc (prec f)) s q k (low f)) (inf s)) ≡ cond s (mid f - q * 2 ^ k) (mid f + min (q * 2 ^ k) (mid f))
    go true true e = value_height f (odd (suc (prec f)) true q k (low f)) true (q * 2 ^ k) (odd_sign (suc (prec f)) true q k (low f))
    go false true e = value_height f (odd (suc (prec f)) false q k (low f)) false (q * 2 ^ k) (odd_sign (suc (prec f)) false q k (low f)) ∙ within (q * 2 ^ k) (mid f) (ltb-true (q * 2 ^ k) (mid f) e)
    go true false e = inf_height f true ∙ beneath (q * 2 ^ k) (mid f) (ltb-false (q * 2 ^ k) (mid f) e)
    go false false e = inf_height f false ∙ beyond (q * 2 ^ k) (mid f) (ltb-false (q * 2 ^ k) (mid f) e)

-- a / c, where that is w units
pub round_height : (f : Format) (s : Bool) (a c w : ℕ) → 0 < c → a * 2 ^ low f ≡ w * c → height f (round f s a c) ≡ cond s (under f (near f w)) (above f (near f w))
round_height f s a c w C h =
    ap (height f) (round_is f s a c) ∙ units_height f s (kept (prec f) (a * 2 ^ low f) c) (drop (prec f) (a * 2 ^ low f) c) ∙ ap (λ (z : ℕ). cond s (under f z) (above f z)) (grid_near f a c w C h)

-- ---- sums: the heights of two finite values add up to a number around 2 * mid, and the sum lies where `settle` puts that
unfoldable pub settle : Format → ℕ → ℕ
settle f z = cond (leb (mid f + mid f) z) (above f (near f (z - (mid f + mid f)))) (under f (near f (mid f + mid f - z)))

near_zero : (f : Format) → near f 0 ≡ 0
near_zero f = near_exact f 0 0 0 (pow_pos (prec f)) refl

pub settle_up : (f : Format) (z w : ℕ) → z ≡ mid f + mid f + w → settle f z ≡ above f (near f w)
unfolding settle
settle_up f z w e = simp (le-leb (mid f + mid f) z (omega (arith, e))) (ap (λ (v : ℕ). above f (near f v)) (rest z (mid f + mid f) w e))
  where
    rest : (z m w : ℕ) → z ≡ m + w → z - m ≡ w
    rest z m w e = omega arith

pub settle_down : (f : Format) (z w : ℕ) → z + w ≡ mid f + mid f → settle f z ≡ under f (near f w)
unfolding settle
settle_down f z w e = go (eq-zero-or-pos w)
  where
    rest : (z m w : ℕ) → z + w ≡ m → m - z ≡ w
    rest z m w e = omega arith

    go : (w ≡ 0) ⊎ (0 < w) → settle f z ≡ under f (near f w)
    go (inl h) =
        settle_up f z w (omega arith)
        ∙ ap (λ (v : ℕ). mid f + min v (mid f)) (ap (near f) h ∙ near_zero f)
        ∙ omega arith
        ∙ sym (ap (λ (v : ℕ). mid f - v) (ap (near f) h ∙ near_zero f))
    go (inr h) = simp (lt-leb (mid f + mid f) z (omega arith)) (ap (λ (v : ℕ). under f (near f v)) (rest z (mid f + mid f) w e))

pub settle_mono : (f : Format) (y z : ℕ) → y ≤ z → settle f y ≤ settle f z
unfolding settle
settle_mono f y z h = go (leb (mid f + mid f) y) (leb (mid f + mid f) z) refl refl
  where
    M : ℕ
    M = mid f + mid f

    go : (a b : Bool) → leb M y ≡ a → leb M z ≡ b → cond a (above f (near f (y - M))) (under f (near f (M - y))) ≤ cond b (above f (near f (z - M))) (under f (near f (M - z)))
    go true true p q = omega (arith, near_mono f (y - M) (z - M) (omega arith))
    go true false p q = absurd (omega (arith, leb-true M y p, leb-false M z q))
    go false true p q = omega arith
    go false false p q = omega (arith, near_mono f (M - z) (M - y) (omega arith))

sum_is : (f : Format) (s : Bool) (a : ℕ) (t : Bool) (b c : ℕ) → sum f s a t b c ≡ cond (beq s t) (round f s (a + b) c) (cond (ltb a b) (round f t (b - a) c) (round f (s && ltb b a) (a - b) c))
unfolding sum
sum_is f s a t b c = refl

less : (x y X Y l c : ℕ) → x * l ≡ X * c → y * l ≡ Y * c → (x - y) * l ≡ (X - Y) * c
less x y X Y l c p q =
    mul_comm (x - y) l ∙ mul-sub l x y ∙ ap₂ (λ (u v : ℕ). u - v) (mul_comm l x ∙ p ∙ mul_comm X c) (mul_comm l y ∙ q ∙ mul_comm Y c) ∙ sym (mul-sub c X Y) ∙ mul_comm c (X - Y)

-- ±A and ±B units, as the fractions ±a / c and ±b / c
pub sum_height : (f : Format) (s : Bool) (a : ℕ) (t : Bool) (b c A B : ℕ) → 0 < c → a * 2 ^ low f ≡ A * c → b * 2 ^ low f ≡ B * c → A < mid f → B < mid f
    → height f (sum f s a t b c) ≡ settle f (cond s (mid f - A) (mid f + A) + cond t (mid f - B) (mid f + B))
sum_height f s a t b c A B C p q x y = ap (height f) (sum_is f s a t b c) ∙ go s t (ltb a b) (ltb b a) refl refl
  where
    scaled_ab : Scaled a b A B
    scaled_ab = record { l = 2 ^ low f; q = c; l_pos = pow_pos (low f); q_pos = C; left = p; right = q }

    plus : (a + b) * 2 ^ low f ≡ (A + B) * c
    plus = add-mul a b (2 ^ low f) ∙ ap₂ (λ (u v : ℕ). u + v) p q ∙ sym (add-mul A B c)

    more : (b - a) * 2 ^ low f ≡ (B - A) * c
    more = less b a B A (2 ^ low f) c q p

    fewer : (a - b) * 2 ^ low f ≡ (A - B) * c
    fewer = less a b A B (2 ^ low f) c p q

    equal : ltb a b ≡ false → ltb b a ≡ false → A ≡ B
    equal u v = eq_up scaled_ab (le_antisymm (ltb-false b a v) (ltb-false a b u))

    go : (s t u v : Bool) → ltb a b ≡ u → ltb b a ≡ v
        → height f (cond (beq s t) (round f s (a + b) c) (cond u (round f t (b - a) c) (round f (s && v) (a - b) c))) ≡ settle f (cond s (mid f - A) (mid f + A) + cond t (mid f - B) (mid f + B))
    go true true u v i j = round_height f true (a + b) c (A + B) C plus ∙ sym (settle_down f (mid f - A + (mid f - B)) (A + B) (omega arith))
    go false false u v i j = round_height f false (a + b) c (A + B) C plus ∙ sym (settle_up f (mid f + A + (mid f + B)) (A + B) (omega arith))
    go true false true v i j = round_height f false (b - a) c (B - A) C more ∙ sym (settle_up f (mid f - A + (mid f + B)) (B - A) (omega (arith, lt_up scaled_ab (ltb-true a b i))))
    go true false false true i j = round_height f true (a - b) c (A - B) C fewer ∙ sym (settle_down f (mid f - A + (mid f + B)) (A - B) (omega (arith, gt_up scaled_ab (ltb-true b a j))))
    go true false false false i j = round_height f false (a - b) c (A - B) C fewer ∙ sym (settle_up f (mid f - A + (mid f + B)) (A - B) (omega (arith, equal i j)))
    go false true true v i j = round_height f true (b - a) c (B - A) C more ∙ sym (settle_down f (mid f + A + (mid f - B)) (B - A) (omega (arith, lt_up scaled_ab (ltb-true a b i))))
    go false true false true i j = round_height f false (a - b) c (A - B) C fewer ∙ sym (settle_up f (mid f + A + (mid f - B)) (A - B) (omega (arith, gt_up scaled_ab (ltb-true b a j))))
    go false true false false i j = round_height f false (a - b) c (A - B) C fewer ∙ sym (settle_up f (mid f + A + (mid f - B)) (A - B) (omega (arith, equal i j)))

pub finite_number : (f : Format) (x : Float) → Finite f x → Number f x
unfolding is_nan
finite_number f nan p = absurd p.finite
finite_number f (inf s) p = absurd p.finite
finite_number f (fin s m e) p = record { fit = p.fit; no_nan = tt }

pub neg_finite : (f : Format) (x : Float) → Finite f x → Finite f (neg x)
unfolding neg
neg_finite f nan p = absurd p.finite
neg_finite f (inf s) p = absurd p.finite
neg_finite f (fin s m e) p = record { fit = neg-fits f (fin s m e) p.fit; finite = tt }

to_units : (f : Format) (s : Bool) (m : ℕ) (e d : ℤ) → T (fits f (fin s m e)) → m * up e * down d * 2 ^ low f ≡ mag f m e * (down e * down d)
to_units f s m e d p = mul_right_comm (m * up e) (down d) (2 ^ low f) ∙ ap (λ (z : ℕ). z * down d) (sym (mag_whole f s m e p)) ∙ mul_assoc (mag f m e) (down e) (down d)

pub add_height : (f : Format) (x y : Float) → Finite f x → Finite f y → height f (add f x y) ≡ settle f (height f x + height f y)
unfolding add
add_height f nan y p q = absurd p.finite
add_height f (inf s) y p q = absurd p.finite
add_height f (fin s m e) nan p q = absurd q.finite
add_height f (fin s m e) (inf t) p q = absurd q.finite
add_height f (fin s m e) (fin t n d) p q =
    sum_height f s (m * up e * down d) t (n * up d * down e) (down e * down d) (mag f m e) (mag f n d) (mul-pos (down_pos e) (down_pos d))
    (to_units f s m e d p.fit) (to_units f t n d e q.fit ∙ ap (λ (z : ℕ). mag f n d * z) (mul_comm (down d) (down e))) (mag_below f s m e p.fit) (mag_below f t n d q.fit)
    ∙ sym (ap₂ (λ (u v : ℕ). settle f (u + v)) (fin_height f s m e) (fin_height f t n d))

pub sub_height : (f : Format) (x y : Float) → Finite f x → Finite f y → height f (sub f x y) ≡ settle f (height f x + (mid f + mid f - height f y))
sub_height f x y p q =
    ap (height f) (sub_is_add f x y) ∙ add_height f x (neg y) p (neg_finite f y q) ∙ ap (λ (z : ℕ). settle f (height f x + z)) (height_neg f y q.fit (finite_number f y q).no_nan)

-- ---- sums grow with their operands
pub settle_top : (f : Format) (z : ℕ) → settle f z ≤ mid f + mid f
unfolding settle
settle_top f z = go (leb (mid f + mid f) z) (near f (z - (mid f + mid f))) (near f (mid f + mid f - z))
  where
    go : (b : Bool) (v w : ℕ) → cond b (above f v) (under f w) ≤ mid f + mid f
    go true v w = omega arith
    go false v w = omega arith

pub number_of_height : (f : Format) (x : Float) → T (fits f x) → height f x ≤ mid f + mid f → Number f x
unfolding height is_nan
number_of_height f nan p h = absurd (omega arith)
number_of_height f (inf s) p h = record { fit = p; no_nan = tt }
number_of_height f (fin s m e) p h = record { fit = p; no_nan = tt }

-- a sum of finite values is a number
pub add_number : (f : Format) (x y : Float) → Finite f x → Finite f y → Number f (add f x y)
add_number f x y p q = number_of_height f (add f x y) (add-fits f x y) (subst (λ (z : ℕ). z ≤ mid f + mid f) (sym (add_height f x y p q)) (settle_top f (height f x + height f y)))

pub sub_number : (f : Format) (x y : Float) → Finite f x → Finite f y → Number f (sub f x y)
sub_number f x y p q = subst (λ (v : Float). Number f v) (sym (sub_is_add f x y)) (add_number f x (neg y) p (neg_finite f y q))

high : (f : Format) → height f (inf false) ≡ mid f + mid f
unfolding height
high f = refl

deep : (f : Format) → height f (inf true) ≡ 0
unfolding height
deep f = refl

-- a finite value lies between the infinities
pub finite_range : (f : Format) (x : Float) → Finite f x → (0 < height f x) × (height f x < mid f + mid f)
unfolding height
finite_range f nan p = absurd p.finite
finite_range f (inf s) p = absurd p.finite
finite_range f (fin true m e) p = (omega (arith, mag_below f true m e p.fit), omega (arith, mid_pos f))
finite_range f (fin false m e) p = (omega (arith, mid_pos f), omega (arith, mag_below f false m e p.fit))

-- a number is an infinity or finite
pub data Kind (f : Format) (x : Float) : Type 0 where
  bottom : x ≡ inf true → Kind f x
  peak : x ≡ inf false → Kind f x
  inside : Finite f x → Kind f x

pub kind : (f : Format) (x : Float) → Number f x → Kind f x
unfolding is_nan
kind f nan p = absurd p.no_nan
kind f (inf true) p = bottom refl
kind f (inf false) p = peak refl
kind f (fin s m e) p = inside (record { fit = p.fit; finite = tt })

add_inf_right : (f : Format) (x : Float) (t : Bool) → T (not (is_nan (add f x (inf t)))) → add f x (inf t) ≡ inf t
unfolding add is_nan
add_inf_right f nan t n = absurd n
add_inf_right f (inf true) true n = refl
add_inf_right f (inf true) false n = absurd n
add_inf_right f (inf false) true n = absurd n
add_inf_right f (inf false) false n = refl
add_inf_right f (fin s m e) t n = refl

add_inf_left : (f : Format) (s : Bool) (y : Float) → Finite f y → add f (inf s) y ≡ inf s
unfolding add
add_inf_left f s nan q = absurd q.finite
add_inf_left f s (inf t) q = absurd q.finite
add_inf_left f s (fin t n d) q = refl

-- for infinite operands too, where neither sum is a NaN
pub add_rises : (f : Format) (x x' y : Float) → Number f x → Number f x' → Number f y → T (not (is_nan (add f x y))) → T (not (is_nan (add f x' y))) → height f x ≤ height f x' → height f (add f x y) ≤ height f (add f x' y)
add_rises f x x' y p q r u v h = by_y (kind f y r)
  where
    to_inf : (t : Bool) → y ≡ inf t → height f (add f x y) ≤ height f (add f x' y)
    to_inf t e =
        le_of_eq (ap (height f) (ap (add f x) e ∙ add_inf_right f x t (subst (λ (z : Float). T (not (is_nan (add f x z)))) e u) ∙ sym (ap (add f x') e ∙ add_inf_right f x' t (subst (λ (z : Float). T (not (is_nan (add f x' z)))) e v))))

    by_x : Finite f y → Kind f x → Kind f x' → height f (add f x y) ≤ height f (add f x' y)
    by_x k (bottom e) b = le_trans (le_of_eq (ap (height f) (ap (λ (z : Float). add f z y) e ∙ add_inf_left f true y k) ∙ deep f)) zero-le
    by_x k (peak e) (peak e') = le_of_eq (ap (λ (z : Float). height f (add f z y)) (e ∙ sym e'))
    by_x k (peak e) (bottom e') = absurd (omega (arith, ap (height f) e, high f, ap (height f) e', deep f, mid_pos f))
    by_x k (peak e) (inside g) = absurd (omega (arith, ap (height f) e, high f, (finite_range f x' g).1))
    by_x k (inside g) (peak e) = le_trans (height_top f (add f x y) (add-fits f x y) u) (le_of_eq (sym (ap (height f) (ap (λ (z : Float). add f z y) e ∙ add_inf_left f false y k) ∙ high f)))
    by_x k (inside g) (bottom e) = absurd (omega (arith, ap (height f) e, deep f, (finite_range f x g).0))
    by_x k (inside g) (inside g') = le_trans (le_of_eq (add_height f x y g k)) (le_trans (settle_mono f (height f x + height f y) (height f x' + height f y) (omega arith)) (le_of_eq (sym (add_height f x' y g' k))))

    by_y : Kind f y → height f (add f x y) ≤ height f (add f x' y)
    by_y (bottom e) = to_inf true e
    by_y (peak e) = to_inf false e
    by_y (inside k) = by_x k (kind f x p) (kind f x' q)

sum_number : (f : Format) (x y : Float) → T (not (is_nan (add f x y))) → Number f (add f x y)
sum_number f x y n = record { fit = add-fits f x y; no_nan = n }

pub add_mono : (f : Format) (x x' y : Float) → Number f x → Number f x' → Number f y → T (not (is_nan (add f x y))) → T (not (is_nan (add f x' y))) → le x x' ≡ true → le (add f x y) (add f x' y) ≡ true
add_mono f x x' y p q r u v h = ≤→le f (add f x y) (add f x' y) (sum_number f x y u) (sum_number f x' y v) (add_rises f x x' y p q r u v (le→≤ f x x' p q h))

pub sub_mono : (f : Format) (x x' y : Float) → Number f x → Number f x' → Number f y → T (not (is_nan (sub f x y))) → T (not (is_nan (sub f x' y))) → le x x' ≡ true → le (sub f x y) (sub f x' y) ≡ true
unfolding sub
sub_mono f x x' y p q r u v h = add_mono f x x' (neg y) p q (neg_number f y r) u v h

-- the order of the second operand is turned round
pub sub_anti : (f : Format) (x y y' : Float) → Number f x → Number f y → Number f y' → T (not (is_nan (sub f x y))) → T (not (is_nan (sub f x y'))) → le y y' ≡ true → le (sub f x y') (sub f x y) ≡ true
unfolding sub
sub_anti f x y y' p q r u v h =
    ap₂ le (add_comm_f f x (neg y')) (add_comm_f f x (neg y))
    ∙ add_mono f (neg y') (neg y) x (neg_number f y' r) (neg_number f y q) p (subst (λ (z : Float). T (not (is_nan z))) (add_comm_f f x (neg y')) v) (subst (λ (z : Float). T (not (is_nan z))) (add_comm_f f x (neg y)) u) (le_neg y y' ∙ h)

-- with finite operands no NaN comes up: a sum grows with both of them
pub add_grows : (f : Format) (x x' y y' : Float) → Finite f x → Finite f x' → Finite f y → Finite f y' → le x x' ≡ true → le y y' ≡ true → le (add f x y) (add f x' y') ≡ true
add_grows f x x' y y' p p' q q' h k =
    ≤→le f (add f x y) (add f x' y') (add_number f x y p q) (add_number f x' y' p' q')
    (le_trans (le_of_eq (add_height f x y p q)) (le_trans (settle_mono f (height f x + height f y) (height f x' + height f y') more) (le_of_eq (sym (add_height f x' y' p' q')))))
  where
    more : height f x + height f y ≤ height f x' + height f y'
    more = omega (arith, le→≤ f x x' (finite_number f x p) (finite_number f x' p') h, le→≤ f y y' (finite_number f y q) (finite_number f y' q') k)

-- and a difference grows with the first and falls with the second
pub sub_grows : (f : Format) (x x' y y' : Float) → Finite f x → Finite f x' → Finite f y → Finite f y' → le x x' ≡ true → le y' y ≡ true → le (sub f x y) (sub f x' y') ≡ true
sub_grows f x x' y y' p p' q q' h k =
    ap₂ le (sub_is_add f x y) (sub_is_add f x' y') ∙ add_grows f x x' (neg y) (neg y') p p' (neg_finite f y q) (neg_finite f y' q') h (le_neg y' y ∙ k)

-- ---- a finite value and an infinity
pub add_to_inf : (f : Format) (x : Float) (t : Bool) → Finite f x → add f x (inf t) ≡ inf t
add_to_inf f x t p = add_comm_f f x (inf t) ∙ add_inf_left f t x p

pub sub_to_inf : (f : Format) (x : Float) → Finite f x → sub f x (inf false) ≡ inf true
unfolding sub neg
sub_to_inf f x p = add_to_inf f x true p

inf_number : (f : Format) (t : Bool) → Number f (inf t)
unfolding fits is_nan
inf_number f t = record { fit = tt; no_nan = tt }

-- so the sum of a finite value and any number is a number
pub any_sum : (f : Format) (x y : Float) → Finite f x → Number f y → Number f (add f x y)
any_sum f x y p q = go (kind f y q)
  where
    to_inf : (t : Bool) → y ≡ inf t → Number f (add f x y)
    to_inf t e = subst (λ (v : Float). Number f v) (sym (ap (add f x) e ∙ add_to_inf f x t p)) (inf_number f t)

    go : Kind f y → Number f (add f x y)
    go (bottom e) = to_inf true e
    go (peak e) = to_inf false e
    go (inside k) = add_number f x y p k

pub any_difference : (f : Format) (x y : Float) → Finite f x → Number f y → Number f (sub f x y)
any_difference f x y p q = subst (λ (v : Float). Number f v) (sym (sub_is_add f x y)) (any_sum f x (neg y) p (neg_number f y q))

-- what lies between finite values is finite
pub finite_between : (f : Format) (lo v hi : Float) → Finite f lo → T (fits f v) → Finite f hi → le lo v ≡ true → le v hi ≡ true → Finite f v
finite_between f lo v hi p q r l h = go (kind f v n)
  where
    n : Number f v
    n = number f v q (le_numbers lo v l).1

    go : Kind f v → Finite f v
    go (bottom e) = absurd (omega (arith, (finite_range f lo p).0, le→≤ f lo v (finite_number f lo p) n l, ap (height f) e, deep f))
    go (peak e) = absurd (omega (arith, (finite_range f hi r).1, le→≤ f v hi n (finite_number f hi r) h, ap (height f) e, high f))
    go (inside k) = k

-- ---- sums that are exact, and how far others are off
pub mag_exact : (f : Format) (s : Bool) (m : ℕ) (e : ℤ) → T (fits f (fin s m e)) → near f (mag f m e) ≡ mag f m e
mag_exact f s zero e p = near_exact f (mag f zero e) zero (mag_shape f s zero e p).0 (pow_pos (prec f)) (mag_shape f s zero e p).1
mag_exact f s (suc m) e p = near_exact f (mag f (suc m) e) (suc m) (mag_shape f s (suc m) e p).0 (fits_digits f s m e p) (mag_shape f s (suc m) e p).1

pub settle_exact : (f : Format) (z : Float) → Finite f z → settle f (mid f + height f z) ≡ height f z
unfolding height
settle_exact f nan p = absurd p.finite
settle_exact f (inf s) p = absurd p.finite
settle_exact f (fin false m e) p = settle_up f (mid f + (mid f + mag f m e)) (mag f m e) (omega arith) ∙ ap (above f) (mag_exact f false m e p.fit) ∙ sym (within (mag f m e) (mid f) (mag_below f false m e p.fit))
settle_exact f (fin true m e) p = settle_down f (mid f + (mid f - mag f m e)) (mag f m e) (omega (arith, mag_below f true m e p.fit)) ∙ ap (under f) (mag_exact f true m e p.fit)

-- z is the exact sum of x and y
pub add_exact : (f : Format) (x y z : Float) → Finite f x → Finite f y → Finite f z → height f x + height f y ≡ mid f + height f z → Alike (add f x y) z
add_exact f x y z p q r h = height_same f (add f x y) z (add-fits f x y) r.fit (add_height f x y p q ∙ ap (settle f) h ∙ settle_exact f z r)

-- z is the exact difference
pub sub_exact : (f : Format) (x y z : Float) → Finite f x → Finite f y → Finite f z → height f x + mid f ≡ height f y + height f z → Alike (sub f x y) z
sub_exact f x y z p q r h =
    subst (λ (v : Float). Alike v z) (sym (sub_is_add f x y))
    (add_exact f x (neg y) z p (neg_finite f y q) r (omega (arith, h, height_neg f y q.fit (finite_number f y q).no_nan, height_top f y q.fit (finite_number f y q).no_nan)))

settle_off : (f : Format) (z j : ℕ) → 2 ^ (prec f + j) ≤ mid f → z ≤ mid f + mid f + 2 ^ (prec f + j) → mid f + mid f ≤ z + 2 ^ (prec f + j) → Near z (settle f z + mid f) (2 ^ j)
settle_off f z j fit hi lo = go (leb (mid f + mid f) z) refl
  where
    P : ℕ
    P = 2 ^ (prec f + j)

    capped : (w : ℕ) → w ≤ P → near f w ≤ P
    capped w h = le_trans (near_mono f w P h) (le_of_eq (near_exact f P 1 (prec f + j) (lt_of_lt_of_le (lit< {m = 1} {n = 2 ^ 2} tt) (pow_mono (two f))) (sym (one-mul P))))

    go : (b : Bool) → leb (mid f + mid f) z ≡ b → Near z (settle f z + mid f) (2 ^ j)
    go true e =
        let w = z - (mid f + mid f) in
        let g : mid f + mid f ≤ z = leb-true (mid f + mid f) z e in
        let k : w ≤ P = omega arith in
        let s : settle f z ≡ above f (near f w) = settle_up f z w (omega arith) in
        let n = near_within f w j k in
        record { not_above = omega (arith, n.not_above, s, capped w k); not_below_holds = omega (arith, n.not_below_holds, s, capped w k) }
    go false e =
        let w = mid f + mid f - z in
        let g : z < mid f + mid f = leb-false (mid f + mid f) z e in
        let k : w ≤ P = omega arith in
        let s : settle f z ≡ under f (near f w) = settle_down f z w (omega arith) in
        let n = near_within f w j k in
        record { not_above = omega (arith, n.not_below_holds, s, capped w k); not_below_holds = omega (arith, n.not_above, s, capped w k) }

-- A sum whose exact value is at most 2 ^ (prec + j) units either way is off by at most half of 2 ^ j units. Both sides count from twice -inf: the exact sum is the sum of the heights.
pub add_off : (f : Format) (x y : Float) (j : ℕ) → Finite f x → Finite f y → prec f + j ≤ low f + suc (emax f)
    → height f x + height f y ≤ mid f + mid f + 2 ^ (prec f + j) → mid f + mid f ≤ height f x + height f y + 2 ^ (prec f + j)
    → Near (height f x + height f y) (height f (add f x y) + mid f) (2 ^ j)
add_off f x y j p q fit hi lo =
    subst (λ (z : ℕ). Near (height f x + height f y) (z + mid f) (2 ^ j)) (sym (add_height f x y p q))
    (settle_off f (height f x + height f y) j (le_trans (pow_mono fit) (le_of_eq (sym (overflow_is f)))) hi lo)

-- the same without a bound: half of 2 ^ k units, where k is how many digits of the exact sum's magnitude are dropped. The sum is finite
finite_near : (f : Format) (z : ℕ) → 0 < settle f z → settle f z < mid f + mid f → Near z (settle f z + mid f) (2 ^ spare f (apart z (mid f + mid f)))
finite_near f z lo hi = go (leb (mid f + mid f) z) refl
  where
    M : ℕ
    M = mid f + mid f

    within_of : (w : ℕ) → apart z M ≡ w → Near w (near f w) (2 ^ spare f w) → Near w (near f w) (2 ^ spare f (apart z M))
    within_of w e n = subst (λ (v : ℕ). Near w (near f w) (2 ^ spare f v)) (sym e) n

    go : (b : Bool) → leb M z ≡ b → Near z (settle f z + mid f) (2 ^ spare f (apart z M))
    go true e =
        let g : M ≤ z = leb-true M z e in
        let s : settle f z ≡ above f (near f (z - M)) = settle_up f z (z - M) (omega arith) in
        let n = within_of (z - M) (omega arith) (near_off f (z - M)) in
        record { not_above = omega (arith, n.not_above, s); not_below_holds = omega (arith, n.not_below_holds, s) }
    go false e =
        let g : z < M = leb-false M z e in
        let s : settle f z ≡ under f (near f (M - z)) = settle_down f z (M - z) (omega arith) in
        let n = within_of (M - z) (omega arith) (near_off f (M - z)) in
        record { not_above = omega (arith, n.not_below_holds, s); not_below_holds = omega (arith, n.not_above, s) }

pub add_half_ulp : (f : Format) (x y : Float) → Finite f x → Finite f y → Finite f (add f x y) → Near (height f x + height f y) (height f (add f x y) + mid f) (2 ^ spare f (apart (height f x + height f y) (mid f + mid f)))
add_half_ulp f x y p q r =
    let e = add_height f x y p q in
    let s = finite_range f (add f x y) r in
    subst (λ (z : ℕ). Near (height f x + height f y) (z + mid f) (2 ^ spare f (apart (height f x + height f y) (mid f + mid f)))) (sym e)
    (finite_near f (height f x + height f y) (lt_of_lt_of_le s.0 (le_of_eq e)) (lt_of_le_of_lt (le_of_eq (sym e)) s.1))

-- binary32, up to 128 either way: 2 ^ 156 units, and at most 2 ^ 131 units off, which is 2 ^ -18
pub add_off_128 : (x y : Float) → Finite binary32 x → Finite binary32 y → height binary32 x + height binary32 y ≤ mid binary32 + mid binary32 + 2 ^ 156 → mid binary32 + mid binary32 ≤ height binary32 x + height binary32 y + 2 ^ 156
    → (height binary32 (add binary32 x y) + mid binary32 ≤ height binary32 x + height binary32 y + 2 ^ 131) × (height binary32 x + height binary32 y ≤ height binary32 (add binary32 x y) + mid binary32 + 2 ^ 131)
add_off_128 x y p q hi lo =
    let n = add_off binary32 x y 132 p q (lit≤ tt) hi lo in
    let w = height binary32 x + height binary32 y in
    let r = height binary32 (add binary32 x y) + mid binary32 in
    (halved r w (2 ^ 131) n.not_above, halved w r (2 ^ 131) n.not_below_holds)
  where
    halved : (a b u : ℕ) → 2 * a ≤ 2 * b + 2 * u → a ≤ b + u
    halved a b u h = omega arith
