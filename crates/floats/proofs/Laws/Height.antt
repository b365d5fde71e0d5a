-- The order of floats as an order of natural numbers. `height f x` counts units of f's smallest value from -inf, at 0, upward: both zeros are at `mid f`,
-- +inf at twice that, and a number lies above or below `mid f` by its magnitude, which is a whole number of units where x fits f. So `lt` and `le` are `<` and `≤` of heights,
-- and omega reads them. Assumes nothing.
use mathlib.Core.Path.{◌≡◌, refl, sym, ap, ap₂, ◌∙◌, subst}
use mathlib.Core.Logic.{inl, inr}
use mathlib.Core.Bool.{Bool, true, false, not, ◌&&◌, ◌||◌, cond}
use Prim.Native.Nat.{ℕ, zero, suc, ◌+◌, ◌-◌, ◌*◌, ◌/◌, ◌%◌, ◌^◌, ◌≤◌, ◌<◌}
use native.Mathlib.Nat.{le_of_eq, le_of_suc-le-suc, lt_of_le_of_lt, lt_of_lt_of_le, lt_of_not-le, not-le_of_lt, mul_comm, mul_assoc, mul_right_comm, mul-one, one-mul, add-mul, zero-mul, zero-div, mul-pos, mul-lt-mul_of_pos_right, lt_of_mul-lt-mul_right, eq_of_mul-eq-mul_right, mul-div_cancel, sub-add_cancel}
use native.Mathlib.Omega.{arith}
use borrow.Author.Tests.{lt-ltb, le-ltb, ltb-true, ltb-false, le-leb, lt-leb, eqb-true, eqb-false, eq-eqb, ne_eqb}
use lib.IntN.{ℤ, pos, negsuc}
use lib.Dec.{T, leb, ltb, eqb, ltb→lt, leb→le, eqb→eq, lt→ltb}
use lib.Pow.{pow_pos, pow-add, pow-lt}
use lib.Ieee.{Float, nan, inf, fin, Format, prec, emax, low, up, down, neg, lt, eq, le, below, level, fits, is_nan}
use lib.Ieee.Fits.{and_i, eq→eqb, and_l, and_r, down_pos}
use Rattle.lists.proofs.Bools.{same_bool}
use Rattle.floats.specs.Leaves.{with_sign, abs}
use Rattle.floats.specs.Values.{pos_zero, Alike}
use Rattle.floats.specs.Height.{mag, mid, height}
use Rattle.floats.proofs.Laws.Signs.{same_value}

pub mid_pos : (f : Format) → 0 < mid f
unfolding mid
mid_pos f = pow_pos (low f + suc (emax f))

-- ---- what `fits` says of a magnitude: it is a whole number of units, below `mid`
fits_low : (f : Format) (s : Bool) (m : ℕ) (e : ℤ) → T (fits f (fin s (suc m) e)) → down e ≤ 2 ^ low f
unfolding fits
fits_low f s m e t =
    leb→le (down e) (2 ^ low f)
    (and_r (eqb (suc m % 2) 1 && ltb (suc m) (2 ^ prec f)) (leb (down e) (2 ^ low f))
    (and_l (eqb (suc m % 2) 1 && ltb (suc m) (2 ^ prec f) && leb (down e) (2 ^ low f)) (ltb (suc m * up e) (2 ^ suc (emax f) * down e)) t))

fits_top : (f : Format) (s : Bool) (m : ℕ) (e : ℤ) → T (fits f (fin s (suc m) e)) → suc m * up e < 2 ^ suc (emax f) * down e
unfolding fits
fits_top f s m e t =
    ltb→lt (suc m * up e) (2 ^ suc (emax f) * down e)
    (and_r (eqb (suc m % 2) 1 && ltb (suc m) (2 ^ prec f) && leb (down e) (2 ^ low f)) (ltb (suc m * up e) (2 ^ suc (emax f) * down e)) t)

pub fits_digits : (f : Format) (s : Bool) (m : ℕ) (e : ℤ) → T (fits f (fin s (suc m) e)) → suc m < 2 ^ prec f
unfolding fits
fits_digits f s m e t =
    ltb→lt (suc m) (2 ^ prec f)
    (and_r (eqb (suc m % 2) 1) (ltb (suc m) (2 ^ prec f))
    (and_l (eqb (suc m % 2) 1 && ltb (suc m) (2 ^ prec f)) (leb (down e) (2 ^ low f))
    (and_l (eqb (suc m % 2) 1 && ltb (suc m) (2 ^ prec f) && leb (down e) (2 ^ low f)) (ltb (suc m * up e) (2 ^ suc (emax f) * down e)) t)))

-- up e / down e is 2 ^ j units, for some j
scale : (l : ℕ) (e : ℤ) → down e ≤ 2 ^ l → (j : ℕ) × (up e * 2 ^ l ≡ 2 ^ j * down e)
scale l (pos k) h = (k + l, sym (pow-add 2 k l) ∙ sym (mul-one (2 ^ (k + l))))
scale l (negsuc k) h = (l - suc k, one-mul (2 ^ l) ∙ ap (λ (z : ℕ). 2 ^ z) (sym (sub-add_cancel fit)) ∙ pow-add 2 (l - suc k) (suc k))
  where
    fit : suc k ≤ l
    fit = le_of_suc-le-suc (lt_of_not-le (λ (g : suc l ≤ suc k). not-le_of_lt (pow-lt g) h))

-- so the magnitude is m * 2 ^ j, and nothing is lost in its division
pub mag_shape : (f : Format) (s : Bool) (m : ℕ) (e : ℤ) → T (fits f (fin s m e)) → (j : ℕ) × (mag f m e ≡ m * 2 ^ j) × (mag f m e * down e ≡ m * up e * 2 ^ low f)
mag_shape f s zero e t =
    let z : mag f zero e ≡ 0 = ap (λ (z : ℕ). z * 2 ^ low f / down e) (zero-mul (up e)) ∙ ap (λ (z : ℕ). z / down e) (zero-mul (2 ^ low f)) ∙ zero-div (down e) in
    (0, z, ap (λ (z : ℕ). z * down e) z ∙ zero-mul (down e) ∙ sym (ap (λ (z : ℕ). z * 2 ^ low f) (zero-mul (up e)) ∙ zero-mul (2 ^ low f)))
mag_shape f s (suc m) e t =
    let h = scale (low f) e (fits_low f s m e t) in
    let p : suc m * up e * 2 ^ low f ≡ suc m * 2 ^ h.0 * down e = mul_assoc (suc m) (up e) (2 ^ low f) ∙ ap (λ (z : ℕ). suc m * z) h.1 ∙ sym (mul_assoc (suc m) (2 ^ h.0) (down e)) in
    let q : mag f (suc m) e ≡ suc m * 2 ^ h.0 = ap (λ (z : ℕ). z / down e) p ∙ mul-div_cancel (suc m * 2 ^ h.0) (down_pos e) in
    (h.0, q, ap (λ (z : ℕ). z * down e) q ∙ sym p)

pub mag_whole : (f : Format) (s : Bool) (m : ℕ) (e : ℤ) → T (fits f (fin s m e)) → mag f m e * down e ≡ m * up e * 2 ^ low f
mag_whole f s m e t = (mag_shape f s m e t).2

pub mag_below : (f : Format) (s : Bool) (m : ℕ) (e : ℤ) → T (fits f (fin s m e)) → mag f m e < mid f
unfolding mid
mag_below f s zero e t = subst (λ (z : ℕ). z < 2 ^ (low f + suc (emax f))) (sym ((mag_shape f s zero e t).1 ∙ zero-mul (2 ^ (mag_shape f s zero e t).0))) (pow_pos (low f + suc (emax f)))
mag_below f s (suc m) e t =
    lt_of_mul-lt-mul_right (down e)
    (lt_of_le_of_lt (le_of_eq (mag_whole f s (suc m) e t))
    (lt_of_lt_of_le (mul-lt-mul_of_pos_right (fits_top f s m e t) (pow_pos (low f)))
    (le_of_eq (mul_right_comm (2 ^ suc (emax f)) (down e) (2 ^ low f) ∙ ap (λ (z : ℕ). z * down e) (mul_comm (2 ^ suc (emax f)) (2 ^ low f) ∙ sym (pow-add 2 (low f) (suc (emax f))))))))

-- ---- a / b as A / B, where a * L is A * Q and b * L is B * Q
scaled_lt : (a b A B L Q : ℕ) → 0 < L → a * L ≡ A * Q → b * L ≡ B * Q → a < b → A < B
scaled_lt a b A B L Q l p q h = lt_of_mul-lt-mul_right Q (lt_of_le_of_lt (le_of_eq (sym p)) (lt_of_lt_of_le (mul-lt-mul_of_pos_right h l) (le_of_eq q)))

scaled_eq : (a b A B L Q : ℕ) → 0 < Q → a * L ≡ A * Q → b * L ≡ B * Q → a ≡ b → A ≡ B
scaled_eq a b A B L Q l p q h = eq_of_mul-eq-mul_right Q l A B (sym p ∙ ap (λ (z : ℕ). z * L) h ∙ q)

-- the two numbers that a comparison of m * 2 ^ e and n * 2 ^ d looks at are so to the magnitudes
pub record Scaled (a b A B : ℕ) : Type 0 where
  pub l : ℕ
  pub q : ℕ
  pub l_pos : 0 < l
  pub q_pos : 0 < q
  pub left : a * l ≡ A * q
  pub right : b * l ≡ B * q

pub scaled : (f : Format) (s t : Bool) (m n : ℕ) (e d : ℤ) → T (fits f (fin s m e)) → T (fits f (fin t n d)) → Scaled (m * up e * down d) (n * up d * down e) (mag f m e) (mag f n d)
scaled f s t m n e d p q = record {
  l = 2 ^ low f;
  q = down e * down d;
  l_pos = pow_pos (low f);
  q_pos = mul-pos (down_pos e) (down_pos d);
  left = mul_right_comm (m * up e) (down d) (2 ^ low f) ∙ ap (λ (z : ℕ). z * down d) (sym (mag_whole f s m e p)) ∙ mul_assoc (mag f m e) (down e) (down d);
  right = mul_right_comm (n * up d) (down e) (2 ^ low f) ∙ ap (λ (z : ℕ). z * down e) (sym (mag_whole f t n d q)) ∙ mul_assoc (mag f n d) (down d) (down e) ∙ ap (λ (z : ℕ). mag f n d * z) (mul_comm (down d) (down e));
}

module _ {a b A B : ℕ} (c : Scaled a b A B) where
  pub lt_up : a < b → A < B
  lt_up h = scaled_lt a b A B c.l c.q c.l_pos c.left c.right h

  pub lt_down : A < B → a < b
  lt_down h = scaled_lt A B a b c.q c.l c.q_pos (sym c.left) (sym c.right) h

  pub gt_up : b < a → B < A
  gt_up h = scaled_lt b a B A c.l c.q c.l_pos c.right c.left h

  pub gt_down : B < A → b < a
  gt_down h = scaled_lt B A b a c.q c.l c.q_pos (sym c.right) (sym c.left) h

  pub eq_up : a ≡ b → A ≡ B
  eq_up h = scaled_eq a b A B c.l c.q c.q_pos c.left c.right h

  pub eq_down : A ≡ B → a ≡ b
  eq_down h = scaled_eq A B a b c.q c.l c.l_pos (sym c.left) (sym c.right) h

  pub zero_up : a ≡ 0 → A ≡ 0
  zero_up h = scaled_eq a 0 A 0 c.l c.q c.q_pos c.left (zero-mul c.l ∙ sym (zero-mul c.q)) h

  pub zero_down : A ≡ 0 → a ≡ 0
  zero_down h = scaled_eq A 0 a 0 c.q c.l c.l_pos (sym c.left) (zero-mul c.q ∙ sym (zero-mul c.l)) h

  pub sum_up : 0 < a + b → 0 < A + B
  sum_up h = scaled_lt 0 (a + b) 0 (A + B) c.l c.q c.l_pos (zero-mul c.l ∙ sym (zero-mul c.q)) (add-mul a b c.l ∙ ap₂ (λ (x y : ℕ). x + y) c.left c.right ∙ sym (add-mul A B c.q)) h

  pub sum_down : 0 < A + B → 0 < a + b
  sum_down h = scaled_lt 0 (A + B) 0 (a + b) c.q c.l c.q_pos (zero-mul c.q ∙ sym (zero-mul c.l)) (add-mul A B c.q ∙ ap₂ (λ (x y : ℕ). x + y) (sym c.left) (sym c.right) ∙ sym (add-mul a b c.l)) h

-- ---- the order
same_test : (a b c d : ℕ) → (a < b → c < d) → (c < d → a < b) → ltb a b ≡ ltb c d
same_test a b c d h k = same_bool (ltb a b) (ltb c d) (λ t. lt→ltb c d (h (ltb→lt a b t))) (λ t. lt→ltb a b (k (ltb→lt c d t)))

below_height : (M : ℕ) (s t : Bool) (a b A B : ℕ) → Scaled a b A B → A < M → B < M → below s a t b ≡ ltb (cond s (M - A) (M + A)) (cond t (M - B) (M + B))
below_height M false false a b A B c p q = same_test a b (M + A) (M + B) (λ h. let k = lt_up c h in omega arith) (λ h. lt_down c (omega arith))
below_height M false true a b A B c p q = sym (le-ltb (M + A) (M - B) (omega arith))
below_height M true false a b A B c p q = same_test 0 (a + b) (M - A) (M + B) (λ h. let k = sum_up c h in omega arith) (λ h. sum_down c (omega arith))
below_height M true true a b A B c p q = same_test b a (M - A) (M - B) (λ h. let k = gt_up c h in omega arith) (λ h. gt_down c (omega arith))

pub fin_height : (f : Format) (s : Bool) (m : ℕ) (e : ℤ) → height f (fin s m e) ≡ cond s (mid f - mag f m e) (mid f + mag f m e)
unfolding height
fin_height f true m e = refl
fin_height f false m e = refl

pub height_lt : (f : Format) (x y : Float) → T (fits f x) → T (fits f y) → T (not (is_nan x)) → T (not (is_nan y)) → lt x y ≡ ltb (height f x) (height f y)
unfolding lt height is_nan
height_lt f nan y p q n k = absurd n
height_lt f (inf s) nan p q n k = absurd k
height_lt f (inf true) (inf true) p q n k = sym (le-ltb 0 0 (omega arith))
height_lt f (inf true) (inf false) p q n k = sym (lt-ltb 0 (mid f + mid f) (omega (arith, mid_pos f)))
height_lt f (inf false) (inf true) p q n k = sym (le-ltb (mid f + mid f) 0 (omega arith))
height_lt f (inf false) (inf false) p q n k = sym (le-ltb (mid f + mid f) (mid f + mid f) (omega arith))
height_lt f (inf true) (fin true m e) p q n k = sym (lt-ltb 0 (mid f - mag f m e) (omega (arith, mag_below f true m e q)))
height_lt f (inf true) (fin false m e) p q n k = sym (lt-ltb 0 (mid f + mag f m e) (omega (arith, mid_pos f)))
height_lt f (inf false) (fin true m e) p q n k = sym (le-ltb (mid f + mid f) (mid f - mag f m e) (omega arith))
height_lt f (inf false) (fin false m e) p q n k = sym (le-ltb (mid f + mid f) (mid f + mag f m e) (omega (arith, mag_below f false m e q)))
height_lt f (fin s m e) nan p q n k = absurd k
height_lt f (fin true m e) (inf true) p q n k = sym (le-ltb (mid f - mag f m e) 0 (omega arith))
height_lt f (fin false m e) (inf true) p q n k = sym (le-ltb (mid f + mag f m e) 0 (omega arith))
height_lt f (fin true m e) (inf false) p q n k = sym (lt-ltb (mid f - mag f m e) (mid f + mid f) (omega (arith, mid_pos f)))
height_lt f (fin false m e) (inf false) p q n k = sym (lt-ltb (mid f + mag f m e) (mid f + mid f) (omega (arith, mag_below f false m e p)))
height_lt f (fin s m e) (fin t i d) p q n k =
    below_height (mid f) s t (m * up e * down d) (i * up d * down e) (mag f m e) (mag f i d) (scaled f s t m i e d p q) (mag_below f s m e p) (mag_below f t i d q)
    ∙ sym (ap₂ ltb (fin_height f s m e) (fin_height f t i d))

level_height : (M : ℕ) (s t : Bool) (a b A B : ℕ) → Scaled a b A B → A < M → B < M → level s a t b ≡ eqb (cond s (M - A) (M + A)) (cond t (M - B) (M + B))
level_height M s t a b A B c p q = same_bool (level s a t b) (eqb (cond s (M - A) (M + A)) (cond t (M - B) (M + B))) (there s t) (back s t)
  where
    there : (s t : Bool) → T (level s a t b) → T (eqb (cond s (M - A) (M + A)) (cond t (M - B) (M + B)))
    there true true h = eq→eqb (ap (λ (z : ℕ). M - z) (eq_up c (eqb→eq a b (and_l (eqb a b) true h))))
    there false false h = eq→eqb (ap (λ (z : ℕ). M + z) (eq_up c (eqb→eq a b (and_l (eqb a b) true h))))
    there true false h =
        let e = eq_up c (eqb→eq a b (and_l (eqb a b) (eqb a 0) h)) in
        let z = zero_up c (eqb→eq a 0 (and_r (eqb a b) (eqb a 0) h)) in
        let g : M - A ≡ M + B = omega arith in
        eq→eqb g
    there false true h =
        let e = eq_up c (eqb→eq a b (and_l (eqb a b) (eqb a 0) h)) in
        let z = zero_up c (eqb→eq a 0 (and_r (eqb a b) (eqb a 0) h)) in
        let g : M + A ≡ M - B = omega arith in
        eq→eqb g

    back : (s t : Bool) → T (eqb (cond s (M - A) (M + A)) (cond t (M - B) (M + B))) → T (level s a t b)
    back true true h = let e = eqb→eq (M - A) (M - B) h in and_i (eqb a b) true (eq→eqb (eq_down c (omega arith))) tt
    back false false h = let e = eqb→eq (M + A) (M + B) h in and_i (eqb a b) true (eq→eqb (eq_down c (omega arith))) tt
    back true false h = let e = eqb→eq (M - A) (M + B) h in and_i (eqb a b) (eqb a 0) (eq→eqb (eq_down c (omega arith))) (eq→eqb (zero_down c (omega arith)))
    back false true h = let e = eqb→eq (M + A) (M - B) h in and_i (eqb a b) (eqb a 0) (eq→eqb (eq_down c (omega arith))) (eq→eqb (zero_down c (omega arith)))

pub height_eq : (f : Format) (x y : Float) → T (fits f x) → T (fits f y) → T (not (is_nan x)) → T (not (is_nan y)) → eq x y ≡ eqb (height f x) (height f y)
unfolding eq height is_nan
height_eq f nan y p q n k = absurd n
height_eq f (inf s) nan p q n k = absurd k
height_eq f (inf true) (inf true) p q n k = sym (eq-eqb 0 0 refl)
height_eq f (inf true) (inf false) p q n k = sym (ne_eqb 0 (mid f + mid f) (λ e. omega (arith, mid_pos f, e)))
height_eq f (inf false) (inf true) p q n k = sym (ne_eqb (mid f + mid f) 0 (λ e. omega (arith, mid_pos f, e)))
height_eq f (inf false) (inf false) p q n k = sym (eq-eqb (mid f + mid f) (mid f + mid f) refl)
height_eq f (inf true) (fin true m e) p q n k = sym (ne_eqb 0 (mid f - mag f m e) (λ h. omega (arith, mag_below f true m e q, h)))
height_eq f (inf true) (fin false m e) p q n k = sym (ne_eqb 0 (mid f + mag f m e) (λ h. omega (arith, mid_pos f, h)))
height_eq f (inf false) (fin true m e) p q n k = sym (ne_eqb (mid f + mid f) (mid f - mag f m e) (λ h. omega (arith, mid_pos f, h)))
height_eq f (inf false) (fin false m e) p q n k = sym (ne_eqb (mid f + mid f) (mid f + mag f m e) (λ h. omega (arith, mag_below f false m e q, h)))
height_eq f (fin s m e) nan p q n k = absurd k
height_eq f (fin true m e) (inf true) p q n k = sym (ne_eqb (mid f - mag f m e) 0 (λ h. omega (arith, mag_below f true m e p, h)))
height_eq f (fin false m e) (inf true) p q n k = sym (ne_eqb (mid f + mag f m e) 0 (λ h. omega (arith, mid_pos f, h)))
height_eq f (fin true m e) (inf false) p q n k = sym (ne_eqb (mid f - mag f m e) (mid f + mid f) (λ h. omega (arith, mid_pos f, h)))
height_eq f (fin false m e) (inf false) p q n k = sym (ne_eqb (mid f + mag f m e) (mid f + mid f) (λ h. omega (arith, mag_below f false m e p, h)))
height_eq f (fin s m e) (fin t i d) p q n k =
    level_height (mid f) s t (m * up e * down d) (i * up d * down e) (mag f m e) (mag f i d) (scaled f s t m i e d p q) (mag_below f s m e p) (mag_below f t i d q)
    ∙ sym (ap₂ eqb (fin_height f s m e) (fin_height f t i d))

or_is_le : (a b : ℕ) → ltb a b || eqb a b ≡ leb a b
or_is_le a b = go (ltb a b) (eqb a b) refl refl
  where
    go : (x y : Bool) → ltb a b ≡ x → eqb a b ≡ y → x || y ≡ leb a b
    go true y p q = sym (le-leb a b (omega (arith, ltb-true a b p)))
    go false true p q = sym (le-leb a b (omega (arith, eqb-true a b q)))
    go false false p q = sym (lt-leb a b (omega (arith, ltb-false a b p, eqb-false a b q)))

pub height_le : (f : Format) (x y : Float) → T (fits f x) → T (fits f y) → T (not (is_nan x)) → T (not (is_nan y)) → le x y ≡ leb (height f x) (height f y)
unfolding le
height_le f x y p q n k = ap₂ (λ (a b : Bool). a || b) (height_lt f x y p q n k) (height_eq f x y p q n k) ∙ or_is_le (height f x) (height f y)

-- ---- the range of heights, and what `neg` does
pub height_top : (f : Format) (x : Float) → T (fits f x) → T (not (is_nan x)) → height f x ≤ mid f + mid f
unfolding height is_nan
height_top f nan p n = absurd n
height_top f (inf true) p n = omega arith
height_top f (inf false) p n = omega arith
height_top f (fin true m e) p n = omega arith
height_top f (fin false m e) p n = omega (arith, mag_below f false m e p)

pub height_neg : (f : Format) (x : Float) → T (fits f x) → T (not (is_nan x)) → height f (neg x) ≡ mid f + mid f - height f x
unfolding height is_nan neg
height_neg f nan p n = absurd n
height_neg f (inf true) p n = omega arith
height_neg f (inf false) p n = omega arith
height_neg f (fin true m e) p n = omega (arith, mag_below f true m e p)
height_neg f (fin false m e) p n = omega (arith, mag_below f false m e p)

-- ---- two values at one height are equal, or both are zeros
pub sign_off : (f : Format) (s : Bool) (m : ℕ) (e : ℤ) → T (fits f (fin s m e)) → T (fits f (fin false m e))
unfolding fits
sign_off f s zero e h = h
sign_off f s (suc m) e h = h

zero_ok : (f : Format) → T (fits f pos_zero)
unfolding fits
zero_ok f = tt

zero_mag : (f : Format) (s : Bool) (m : ℕ) (e : ℤ) → T (fits f (fin s m e)) → mag f m e ≡ 0 → abs (fin s m e) ≡ pos_zero
unfolding with_sign
zero_mag f s m e p h = same_value f false m 0 e (pos 0) (sign_off f s m e p) (zero_ok f) (h ∙ sym (ap (λ (z : ℕ). z / 1) (zero-mul (2 ^ low f)) ∙ zero-div 1))

pub height_same : (f : Format) (x y : Float) → T (fits f x) → T (fits f y) → height f x ≡ height f y → Alike x y
unfolding height
height_same f nan nan p q h = inl refl
height_same f nan (inf true) p q h = absurd (omega arith)
height_same f nan (inf false) p q h = absurd (omega arith)
height_same f nan (fin true n d) p q h = absurd (omega arith)
height_same f nan (fin false n d) p q h = absurd (omega (arith, mag_below f false n d q))
height_same f (inf true) nan p q h = absurd (omega arith)
height_same f (inf false) nan p q h = absurd (omega arith)
height_same f (fin true m e) nan p q h = absurd (omega arith)
height_same f (fin false m e) nan p q h = absurd (omega (arith, mag_below f false m e p))
height_same f (inf true) (inf true) p q h = inl refl
height_same f (inf true) (inf false) p q h = absurd (omega (arith, mid_pos f))
height_same f (inf false) (inf true) p q h = absurd (omega (arith, mid_pos f))
height_same f (inf false) (inf false) p q h = inl refl
height_same f (inf true) (fin true n d) p q h = absurd (omega (arith, mag_below f true n d q))
height_same f (inf true) (fin false n d) p q h = absurd (omega (arith, mid_pos f))
height_same f (inf false) (fin true n d) p q h = absurd (omega (arith, mid_pos f))
height_same f (inf false) (fin false n d) p q h = absurd (omega (arith, mag_below f false n d q))
height_same f (fin true m e) (inf true) p q h = absurd (omega (arith, mag_below f true m e p))
height_same f (fin false m e) (inf true) p q h = absurd (omega (arith, mid_pos f))
height_same f (fin true m e) (inf false) p q h = absurd (omega (arith, mid_pos f))
height_same f (fin false m e) (inf false) p q h = absurd (omega (arith, mag_below f false m e p))
height_same f (fin true m e) (fin true n d) p q h = inl (same_value f true m n e d p q (omega (arith, mag_below f true m e p, mag_below f true n d q)))
height_same f (fin false m e) (fin false n d) p q h = inl (same_value f false m n e d p q (omega arith))
height_same f (fin true m e) (fin false n d) p q h = inr (zero_mag f true m e p (omega (arith, mag_below f true m e p)), zero_mag f false n d q (omega (arith, mag_below f true m e p)))
height_same f (fin false m e) (fin true n d) p q h = inr (zero_mag f false m e p (omega (arith, mag_below f true n d q)), zero_mag f true n d q (omega (arith, mag_below f true n d q)))
