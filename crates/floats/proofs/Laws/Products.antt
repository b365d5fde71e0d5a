-- Products of finite values: they grow with a factor where the other is not below zero, and a product that fits is exact. A value that fits rounds to itself. Assumes nothing.
use mathlib.Core.Path.{◌≡◌, refl, sym, ap, ap₂, ◌∙◌, subst}
use mathlib.Core.Bool.{Bool, true, false, cond, true≢false}
use Prim.Native.Nat.{ℕ, zero, suc, ◌+◌, ◌-◌, ◌*◌, ◌^◌, ◌≤◌, ◌<◌, min}
use native.Mathlib.Nat.{lt_irrefl, le_trans, le_of_eq, lt_of_not-le, not-le_of_lt, le_of_suc-le-suc, mul_assoc, mul_comm, mul_left_comm, mul-mul-mul_comm, mul-le-mul_right, mul-one, mul-pos, zero-mul, mul-zero, eq_of_mul-eq-mul_right}
use native.Mathlib.Omega.{arith}
use borrow.Author.Tests.{ne_eqb}
use lib.IntN.{ℤ}
use lib.Dec.{T, ltb}
use lib.Pow.{pow_pos}
use lib.Ieee.{Float, nan, inf, fin, Format, prec, emax, low, unlike, up, down, odd, units, round, mul, lt, le, fits}
use lib.Ieee.Fits.{round_is, round-fits, down_pos}
use lib.Ieee.Bits.{is_true}
use lib.Ieee.Exact.{HasValue}
use lib.Ieee.Order.{round_mono, kept, drop}
use lib.Ieee.Scale.{round_same, grid}
use Rattle.floats.specs.Leaves.{negative}
use Rattle.floats.specs.Values.{pos_zero, Number, Finite}
use Rattle.floats.specs.Height.{mid, height, mag}
use Rattle.floats.specs.Near.{near}
use Rattle.floats.proofs.Laws.Signs.{round_neg, round_zero}
use Rattle.floats.proofs.Laws.Height.{mag_below, mag_whole, height_neg, height_same, fin_height, scaled, gt_up}
use Rattle.floats.proofs.Laws.Order.{le→≤, ≤→le, nlt→≤, pos_zero_number, pos_zero_height}
use Rattle.floats.proofs.Laws.MinMax.{alike_signed}
use Rattle.floats.proofs.Laws.Rounding.{finite_number, number_of_height, above, under, round_height, units_height, mag_exact, within}

-- ---- the sign of a rounded value
odd_negative : (d : ℕ) (s : Bool) (q k l : ℕ) → negative (odd d s q k l) ≡ s
unfolding odd negative
odd_negative d s zero k l = refl
odd_negative d s (suc q) k l = refl

units_negative : (f : Format) (s : Bool) (q k : ℕ) → negative (units f s q k) ≡ s
unfolding units negative
units_negative f s q k = go (ltb (q * 2 ^ k) (2 ^ (low f + suc (emax f))))
  where
    go : (b : Bool) → negative (cond b (odd (suc (prec f)) s q k (low f)) (inf s)) ≡ s
    go true = odd_negative (suc (prec f)) s q k (low f)
    go false = refl

pub round_negative : (f : Format) (s : Bool) (a c : ℕ) → negative (round f s a c) ≡ s
round_negative f s a c = ap negative (round_is f s a c) ∙ units_negative f s (kept (prec f) (a * 2 ^ low f) c) (drop (prec f) (a * 2 ^ low f) c)

-- ---- a value that fits rounds to itself
pub round_self : (f : Format) (s : Bool) (m : ℕ) (e : ℤ) → T (fits f (fin s m e)) → round f s (m * up e) (down e) ≡ fin s m e
round_self f s m e p =
    alike_signed (round f s (m * up e) (down e)) (fin s m e)
    (height_same f (round f s (m * up e) (down e)) (fin s m e) (round-fits f s (m * up e) (down e)) p
    (round_height f s (m * up e) (down e) (mag f m e) (down_pos e) (sym (mag_whole f s m e p))
    ∙ ap (λ (z : ℕ). cond s (under f z) (above f z)) (mag_exact f s m e p)
    ∙ ap (λ (z : ℕ). cond s (under f (mag f m e)) z) (sym (within (mag f m e) (mid f) (mag_below f s m e p)))
    ∙ sym (fin_height f s m e)))
    (round_negative f s (m * up e) (down e) ∙ own s m e)
  where
    own : (s : Bool) (m : ℕ) (e : ℤ) → s ≡ negative (fin s m e)
    own s m e = unfold negative in refl

-- a product in units: the magnitudes' product is 2 ^ low times that of a value that fits
cancel : (a b c da db dc A B C L : ℕ) → 0 < L → A * da ≡ a * L → B * db ≡ b * L → C * dc ≡ c * L → A * B ≡ C * L → a * b * dc ≡ c * (da * db)
cancel a b c da db dc A B C L l p q r h =
    eq_of_mul-eq-mul_right (L * L) (mul-pos l l) (a * b * dc) (c * (da * db))
    (simp mul_assoc
    (simp (mul_assoc, mul_comm, mul_left_comm) at (left ∙ middle ∙ right)))
  where
    left : a * L * (b * L) * dc ≡ A * da * (B * db) * dc
    left = ap₂ (λ (x y : ℕ). x * y * dc) (sym p) (sym q)

    middle : A * da * (B * db) * dc ≡ C * dc * L * (da * db)
    middle = simp (mul_assoc, mul_comm, mul_left_comm) (simp (mul_assoc, mul_comm, mul_left_comm) at (ap (λ (z : ℕ). z * (da * db * dc)) h))

    right : C * dc * L * (da * db) ≡ c * L * L * (da * db)
    right = ap (λ (z : ℕ). z * L * (da * db)) r

pub mul_exact : (f : Format) (s t : Bool) (m n k : ℕ) (e d g : ℤ) → T (fits f (fin s m e)) → T (fits f (fin t n d)) → T (fits f (fin (unlike s t) k g)) → mag f m e * mag f n d ≡ mag f k g * 2 ^ low f
    → mul f (fin s m e) (fin t n d) ≡ fin (unlike s t) k g
unfolding mul
mul_exact f s t m n k e d g p q r h =
    round_same f (unlike s t) (m * up e * (n * up d)) (down e * down d) (k * up g) (down g) (mul-pos (down_pos e) (down_pos d)) (down_pos g)
    (cancel (m * up e) (n * up d) (k * up g) (down e) (down d) (down g) (mag f m e) (mag f n d) (mag f k g) (2 ^ low f) (pow_pos (low f)) (mag_whole f s m e p) (mag_whole f t n d q) (mag_whole f (unlike s t) k g r) h)
    ∙ round_self f (unlike s t) k g r

-- ---- a product grows with a factor
pub round_number : (f : Format) (s : Bool) (a c : ℕ) → Number f (round f s a c)
round_number f s a c = number_of_height f (round f s a c) (round-fits f s a c) (le_trans (le_of_eq (ap (height f) (round_is f s a c) ∙ units_height f s (kept (prec f) (a * 2 ^ low f) c) (drop (prec f) (a * 2 ^ low f) c))) (go s (grid f a c)))
  where
    go : (s : Bool) (w : ℕ) → cond s (mid f - w) (mid f + min w (mid f)) ≤ mid f + mid f
    go true w = omega arith
    go false w = omega arith

pub round_not_below : (f : Format) (a c : ℕ) → mid f ≤ height f (round f false a c)
round_not_below f a c = le_trans (floor (grid f a c)) (le_of_eq (sym (ap (height f) (round_is f false a c) ∙ units_height f false (kept (prec f) (a * 2 ^ low f) c) (drop (prec f) (a * 2 ^ low f) c))))
  where
    floor : (w : ℕ) → mid f ≤ mid f + min w (mid f)
    floor w = omega arith

round_turned : (f : Format) (a c : ℕ) → height f (round f true a c) ≡ mid f + mid f - height f (round f false a c)
round_turned f a c = ap (height f) (round_neg f false a c) ∙ height_neg f (round f false a c) (round-fits f false a c) (round_number f false a c).no_nan

pub round_rises : (f : Format) (a b c d : ℕ) → 0 < b → 0 < d → a * d ≤ c * b → height f (round f false a b) ≤ height f (round f false c d)
round_rises f a b c d B D h = le→≤ f (round f false a b) (round f false c d) (round_number f false a b) (round_number f false c d) (is_true (le (round f false a b) (round f false c d)) (round_mono f a b c d B D h))

-- below zero a larger fraction rounds to a smaller value
pub round_falls : (f : Format) (a b c d : ℕ) → 0 < b → 0 < d → a * d ≤ c * b → height f (round f true c d) ≤ height f (round f true a b)
round_falls f a b c d B D h = omega (arith, round_turned f a b, round_turned f c d, round_rises f a b c d B D h)

-- by sign and magnitude
module _ (f : Format) (n : ℕ) (d : ℤ) where
  size_of : ℕ → ℤ → ℕ
  size_of m e = height f (round f false (m * up e * (n * up d)) (down e * down d))

  size_zero : (m : ℕ) (e : ℤ) → m * up e * (n * up d) ≡ 0 → size_of m e ≡ mid f
  unfolding size_of
  size_zero m e h = ap (λ (z : ℕ). height f (round f false z (down e * down d))) h ∙ ap (height f) (round_zero f false (down e * down d) (mul-pos (down_pos e) (down_pos d))) ∙ pos_zero_height f

  size_mono : (m k : ℕ) (e g : ℤ) (s u : Bool) → T (fits f (fin s m e)) → T (fits f (fin u k g)) → mag f m e ≤ mag f k g → size_of m e ≤ size_of k g
  unfolding size_of
  size_mono m k e g s u p q h =
      round_rises f (m * up e * (n * up d)) (down e * down d) (k * up g * (n * up d)) (down g * down d) (mul-pos (down_pos e) (down_pos d)) (mul-pos (down_pos g) (down_pos d))
      (le_trans (le_of_eq (mul-mul-mul_comm (m * up e) (n * up d) (down g) (down d))) (le_trans (mul-le-mul_right (n * up d * down d) in_order) (le_of_eq (mul-mul-mul_comm (k * up g) (down e) (n * up d) (down d)))))
    where
      in_order : m * up e * down g ≤ k * up g * down e
      in_order = le_of_suc-le-suc (lt_of_not-le (λ (l : suc (k * up g * down e) ≤ m * up e * down g). not-le_of_lt (gt_up (scaled f s u m k e g p q) l) h))

  signed : (s : Bool) (m : ℕ) (e : ℤ) → height f (round f s (m * up e * (n * up d)) (down e * down d)) ≡ cond s (mid f + mid f - size_of m e) (size_of m e)
  unfolding size_of
  signed true m e = round_turned f (m * up e * (n * up d)) (down e * down d)
  signed false m e = refl

  size_floor : (m : ℕ) (e : ℤ) → mid f ≤ size_of m e
  unfolding size_of
  size_floor m e = round_not_below f (m * up e * (n * up d)) (down e * down d)

no_mag : (f : Format) (s : Bool) (m : ℕ) (e : ℤ) → T (fits f (fin s m e)) → mag f m e ≡ 0 → m * up e ≡ 0
no_mag f s m e p h = eq_of_mul-eq-mul_right (2 ^ low f) (pow_pos (low f)) (m * up e) 0 (sym (mag_whole f s m e p) ∙ ap (λ (z : ℕ). z * down e) h ∙ zero-mul (down e) ∙ sym (zero-mul (2 ^ low f)))

like_false : (s : Bool) → unlike s false ≡ s
like_false true = refl
like_false false = refl

pub mul_rises : (f : Format) (x x' y : Float) → Finite f x → Finite f x' → Finite f y → mid f ≤ height f y → height f x ≤ height f x' → height f (mul f x y) ≤ height f (mul f x' y)
unfolding mul
mul_rises f nan x' y p q r k h = absurd p.finite
mul_rises f (inf s) x' y p q r k h = absurd p.finite
mul_rises f (fin s m e) nan y p q r k h = absurd q.finite
mul_rises f (fin s m e) (inf u) y p q r k h = absurd q.finite
mul_rises f (fin s m e) (fin u i g) nan p q r k h = absurd r.finite
mul_rises f (fin s m e) (fin u i g) (inf t) p q r k h = absurd r.finite
-- the factor is a -0
mul_rises f (fin s m e) (fin u i g) (fin true n d) p q r k h =
    le_of_eq (all_zero s m e ∙ sym (all_zero u i g))
  where
    none : n * up d ≡ 0
    none = no_mag f true n d r.fit (omega (arith, k, fin_height f true n d, mag_below f true n d r.fit))

    turned : (b : Bool) (z : ℕ) → z ≡ mid f → cond b (mid f + mid f - z) z ≡ mid f
    turned true z e = omega arith
    turned false z e = e

    all_zero : (s : Bool) (m : ℕ) (e : ℤ) → height f (round f (unlike s true) (m * up e * (n * up d)) (down e * down d)) ≡ mid f
    all_zero s m e = signed f n d (unlike s true) m e ∙ turned (unlike s true) (size_of f n d m e) (size_zero f n d m e (ap (λ (z : ℕ). m * up e * z) none ∙ mul-zero (m * up e)))
mul_rises f (fin s m e) (fin u i g) (fin false n d) p q r k h =
    le_trans (le_of_eq (ap (λ (b : Bool). height f (round f b (m * up e * (n * up d)) (down e * down d))) (like_false s) ∙ signed f n d s m e))
    (le_trans (go s u p.fit q.fit (le_trans (le_of_eq (sym (fin_height f s m e))) (le_trans h (le_of_eq (fin_height f u i g)))))
    (le_of_eq (sym (ap (λ (b : Bool). height f (round f b (i * up g * (n * up d)) (down g * down d))) (like_false u) ∙ signed f n d u i g))))
  where
    X : ℕ
    X = size_of f n d m e

    Y : ℕ
    Y = size_of f n d i g

    go : (s u : Bool) → T (fits f (fin s m e)) → T (fits f (fin u i g)) → cond s (mid f - mag f m e) (mid f + mag f m e) ≤ cond u (mid f - mag f i g) (mid f + mag f i g) → cond s (mid f + mid f - X) X ≤ cond u (mid f + mid f - Y) Y
    go true true a b l = omega (arith, size_mono f n d i m g e true true b a (omega (arith, l, mag_below f true m e a, mag_below f true i g b)))
    go false false a b l = size_mono f n d m i e g false false a b (omega (arith, l))
    go true false a b l = omega (arith, size_floor f n d m e, size_floor f n d i g)
    go false true a b l =
        omega (arith, size_zero f n d m e (ap (λ (z : ℕ). z * (n * up d)) (no_mag f false m e a (omega (arith, l))) ∙ zero-mul (n * up d)), size_zero f n d i g (ap (λ (z : ℕ). z * (n * up d)) (no_mag f true i g b (omega (arith, l, mag_below f true i g b))) ∙ zero-mul (n * up d)))

finite_product : (f : Format) (x y : Float) → Finite f x → Finite f y → Number f (mul f x y)
unfolding mul
finite_product f nan y p q = absurd p.finite
finite_product f (inf s) y p q = absurd p.finite
finite_product f (fin s m e) nan p q = absurd q.finite
finite_product f (fin s m e) (inf t) p q = absurd q.finite
finite_product f (fin s m e) (fin t n d) p q = round_number f (unlike s t) (m * up e * (n * up d)) (down e * down d)

pub mul_mono : (f : Format) (x x' y : Float) → Finite f x → Finite f x' → Finite f y → lt y pos_zero ≡ false → le x x' ≡ true → le (mul f x y) (mul f x' y) ≡ true
mul_mono f x x' y p q r k h =
    ≤→le f (mul f x y) (mul f x' y) (finite_product f x y p r) (finite_product f x' y q r)
    (mul_rises f x x' y p q r (le_trans (le_of_eq (sym (pos_zero_height f))) (nlt→≤ f y pos_zero (finite_number f y r) (pos_zero_number f) k)) (le→≤ f x x' (finite_number f x p) (finite_number f x' q) h))

-- ---- k times a value, for a whole k that the format holds: k times its units, rounded
pub times_height : (f : Format) (x : Float) (k n : ℕ) (d : ℤ) → HasValue x false k 1 → T (fits f (fin false n d)) → height f (mul f x (fin false n d)) ≡ above f (near f (k * mag f n d))
unfolding mul
times_height f nan k n d v p = absurd v
times_height f (inf t) k n d v p = absurd v
times_height f (fin true m e) k n d v p = absurd (true≢false v.0)
times_height f (fin false m e) k n d v p = round_height f false (m * up e * (n * up d)) (down e * down d) (k * mag f n d) (mul-pos (down_pos e) (down_pos d)) whole
  where
    whole : m * up e * (n * up d) * 2 ^ low f ≡ k * mag f n d * (down e * down d)
    whole =
        mul_assoc (m * up e) (n * up d) (2 ^ low f)
        ∙ ap₂ (λ (u v : ℕ). u * v) (sym (mul-one (m * up e)) ∙ v.1) (sym (mag_whole f false n d p))
        ∙ mul-mul-mul_comm k (down e) (mag f n d) (down d)

pub times_inf : (f : Format) (x : Float) (k : ℕ) → HasValue x false k 1 → 0 < k → mul f x (inf false) ≡ inf false
unfolding mul
times_inf f nan k v h = absurd v
times_inf f (inf t) k v h = absurd v
times_inf f (fin true m e) k v h = absurd (true≢false v.0)
times_inf f (fin false zero e) k v h = absurd (lt_irrefl 0 (subst (λ (z : ℕ). 0 < z) (sym v.1 ∙ ap (λ (z : ℕ). z * 1) (zero-mul (up e)) ∙ zero-mul 1) (mul-pos h (down_pos e))))
times_inf f (fin false (suc m) e) k v h = simp (ne_eqb (suc m) 0 (λ e. omega (arith, e)))
