-- A guess r at the root of the sum s of the squares is right where r * r is s to within a part in 2 ^ 35, and r is further than that from the points halfway around it.
use Rattle.std.proofs.Common.{◌≡◌, ℕ, suc, ◌+◌, ◌-◌, ◌*◌, ◌/◌, ◌%◌, ◌^◌, ◌<◌, ◌≤◌, Bool, true, false, not, T, ℤ, negsuc, sym, refl, ap, ◌∙◌, subst, inl, true≢false, zero-le, le_trans, le_of_eq, lt_of_lt_of_le, lt_of_le_of_lt, le_of_lt, mul-le-mul_right, mul_assoc, mul_comm, mul-pos, lt_of_not-le, not-le_of_lt, le_of_mul-le-mul_right, mul_left_comm, arith, lt→ltb, pow_pos}
use native.Mathlib.Decide.{dec_le}
use lib.Ieee.{Float, nan, inf, fin, binary32, binary64, up, down, unlike, of_bits, to_bits, round, add, mul, lt, le, fits, is_nan}
use lib.Ieee.Fits.{down_pos}
use lib.Ieee.Exact.{HasValue}
use lib.Ieee.Order.{round_mono}
use lib.Ieee.Positive.{positive, num, den, den_pos, own_value, first_pos, positive_of_value, values_of_le, mul_at}
use lib.Ieee.Bits.{of_bits-to_bits, to_bits-lt}
use Rattle.lists.proofs.Bools.{holds}
use Rattle.hypot.specs.Hypot.{units_of, halfway, square, nearest_root, hypot}
use Rattle.hypot.proofs.Root.Values.{finite_value, shape, finite}
use Rattle.hypot.proofs.Root.Units.{units_lt, units_le}
use Rattle.hypot.proofs.Root.Seek.{sq_le, sq_twice}
use Rattle.hypot.proofs.Root.Nearest.{nearest_unique}
use Rattle.hypot.proofs.Root.Order.{lt_not_le, round_lt}
use Rattle.hypot.proofs.Root.Plus.{Plus, alike, square_plus, round_plus}
use Rattle.hypot.proofs.Root.Sums.{add_at, square_value}
use Rattle.hypot.proofs.Root.Units64.{units64, units64_lt, value64}
use Rattle.hypot.proofs.Root.Points.{below, above, exact_point, point_pos}

abbrev pub total : Float → Float → Float
total x y = add binary64 (mul binary64 x x) (mul binary64 y y)

-- 1 less a part in 2 ^ 35, and 1 more it
abbrev pub less : Float
less = fin false 34359738367 (negsuc 34)

abbrev pub more : Float
more = fin false 34359738369 (negsuc 34)

-- ---- what passes the first test is no NaN, and s is no infinity
no_lt : (h : Float) → lt (inf false) h ≡ true → ⊥
unfolding lt
no_lt nan k = true≢false (sym k)
no_lt (inf t) k = true≢false (sym k)
no_lt (fin t n d) k = true≢false (sym k)

no_nan_above : (z : Float) → lt z nan ≡ true → ⊥
unfolding lt
no_nan_above nan k = true≢false (sym k)
no_nan_above (inf t) k = true≢false (sym k)
no_nan_above (fin t n d) k = true≢false (sym k)

pub guess_number : (z r : Float) → lt z (mul binary64 r r) ≡ true → T (not (is_nan r))
unfolding is_nan
guess_number z nan k = unfold mul in absurd (no_nan_above z k)
guess_number z (inf t) k = tt
guess_number z (fin t n d) k = tt

not_infinite : (s t : Float) → s ≡ inf false → lt (mul binary64 s less) t ≡ true → ⊥
unfolding mul
not_infinite s t e k = no_lt t (sym (ap (λ (z : Float). lt (mul binary64 z less) t) e) ∙ k)

left_infinite : (s : Bool) (w : Float) → s ≡ false → Plus w → add binary64 (inf s) w ≡ inf false
unfolding add
left_infinite true w e p = absurd (true≢false e)
left_infinite false nan e p = absurd p
left_infinite false (inf true) e p = absurd (true≢false p)
left_infinite false (inf false) e p = refl
left_infinite false (fin t n d) e p = refl

right_infinite : (s : Bool) (w : Float) → s ≡ false → Plus w → add binary64 w (inf s) ≡ inf false
unfolding add
right_infinite true w e p = absurd (true≢false e)
right_infinite false nan e p = absurd p
right_infinite false (inf true) e p = absurd (true≢false p)
right_infinite false (inf false) e p = refl
right_infinite false (fin t n d) e p = refl

-- ---- the tests, as numbers
combine_below : (o C w p h A u q : ℕ) → 0 < p → o * w * p ≤ h * u * q → h * C ≤ A * p → o * (C * w) ≤ A * u * q
combine_below o C w p h A u q P a b =
    le_of_mul-le-mul_right
    (le_trans (le_of_eq (simp (mul_assoc, mul_comm, mul_left_comm)))
    (le_trans (mul-le-mul_right C a)
    (le_trans (le_of_eq (simp (mul_assoc, mul_comm, mul_left_comm)))
    (le_trans (mul-le-mul_right (u * q) b) (le_of_eq (simp (mul_assoc, mul_comm, mul_left_comm)))))))
    P

combine_above : (o C w p h A u q : ℕ) → 0 < p → h * u * q ≤ o * w * p → A * p ≤ h * C → A * u * q ≤ o * (C * w)
combine_above o C w p h A u q P a b =
    le_of_mul-le-mul_right
    (le_trans (le_of_eq (simp (mul_assoc, mul_comm, mul_left_comm)))
    (le_trans (mul-le-mul_right (u * q) b)
    (le_trans (le_of_eq (simp (mul_assoc, mul_comm, mul_left_comm)))
    (le_trans (mul-le-mul_right C a) (le_of_eq (simp (mul_assoc, mul_comm, mul_left_comm)))))))
    P

above_zero : (m : ℕ) (e : ℤ) (q : ℕ) → lt (round binary64 false q (2 ^ 2148)) (mul binary64 (fin false m e) more) ≡ true → 0 < m
unfolding mul
above_zero m e q h =
    let l : q * (down e * 34359738368) < m * up e * (34359738369 * 1) * 2 ^ 2148 = round_lt binary64 q (2 ^ 2148) (m * up e * (34359738369 * 1)) (down e * 34359738368) (pow_pos 2148) (mul-pos (down_pos e) (lib.Dec.lit< tt)) h in
    first_pos m (up e) (first_pos (m * up e) (34359738369 * 1) (first_pos (m * up e * (34359738369 * 1)) (2 ^ 2148) (lt_of_le_of_lt zero-le l)))

-- s is n / 2 ^ 298 rounded, and r is the value of the pattern p
module _ (s : Float) (n p : ℕ) (sum : s ≡ round binary64 false n (2 ^ 298)) (lo : 4503599627370496 ≤ p) (hi : p < 0x7ff0_0000_0000_0000)
    (test-1 : lt (mul binary64 s less) (mul binary64 (of_bits binary64 p) (of_bits binary64 p)) ≡ true)
    (test-2 : lt (mul binary64 (of_bits binary64 p) (of_bits binary64 p)) (mul binary64 s more) ≡ true) where
  abbrev r : Float
  r = of_bits binary64 p

  abbrev R : ℕ
  R = units64 p

  r_value : HasValue r false R (2 ^ 1074)
  r_value = value64 p lo hi

  r_pos : T (positive r)
  r_pos = positive_of_value r R (2 ^ 1074) r_value (lt_of_le_of_lt zero-le (units64_lt 0 p (lt_of_lt_of_le (lib.Dec.lit< tt) lo)))

  r_square : mul binary64 r r ≡ round binary64 false (R * R) (2 ^ 2148)
  r_square = mul_at binary64 r r R (2 ^ 1074) R (2 ^ 1074) r_pos r_pos (pow_pos 1074) (pow_pos 1074) r_value r_value

  s_pos : T (positive s)
  s_pos = go s (subst Plus (sym sum) (round_plus binary64 n (2 ^ 298))) test-1 (subst (λ (z : Float). lt z (mul binary64 s more) ≡ true) r_square test-2)
    where
      go : (z : Float) → Plus z → lt (mul binary64 z less) (mul binary64 r r) ≡ true → lt (round binary64 false (R * R) (2 ^ 2148)) (mul binary64 z more) ≡ true → T (positive z)
      go nan q a b = absurd q
      go (inf t) q a b = absurd (not_infinite (inf t) (mul binary64 r r) (ap inf q) a)
      go (fin true m e) q a b = absurd (true≢false q)
      go (fin false m e) q a b = lt→ltb 0 m (above_zero m e (R * R) b)

  abbrev A : ℕ
  A = num s

  abbrev C : ℕ
  C = den s

  s_value : HasValue s false A C
  s_value = own_value s s_pos

  s_less : mul binary64 s less ≡ round binary64 false (A * 34359738367) (C * 34359738368)
  s_less = mul_at binary64 s less A C 34359738367 34359738368 s_pos tt (den_pos s) (lib.Dec.lit< tt) s_value (refl, refl)

  s_more : mul binary64 s more ≡ round binary64 false (A * 34359738369) (C * 34359738368)
  s_more = mul_at binary64 s more A C 34359738369 34359738368 s_pos tt (den_pos s) (lib.Dec.lit< tt) s_value (refl, refl)

  C-pos : 0 < C * 34359738368
  C-pos = mul-pos (den_pos s) (lib.Dec.lit< tt)

  abbrev point : ℕ → Float
  point b = round binary64 false (square (halfway b)) (2 ^ 300)

  module _ (b : ℕ) (from : 0x80_0000 ≤ b) (to : b < 0x7f80_0000) where
    point_positive : T (positive (point b))
    point_positive = positive_of_value (point b) (square (halfway b)) (2 ^ 300) (exact_point b from to) (point_pos b from to)

    scale : (h n q : ℕ) → h ≤ 4 * n → h * q ≤ n * (4 * q)
    scale h n q l = le_trans (mul-le-mul_right q l) (le_of_eq (ap (λ (z : ℕ). z * q) (mul_comm 4 n) ∙ mul_assoc n 4 q))

    scale' : (h n q : ℕ) → 4 * n ≤ h → n * (4 * q) ≤ h * q
    scale' h n q l = le_trans (le_of_eq (sym (ap (λ (z : ℕ). z * q) (mul_comm 4 n) ∙ mul_assoc n 4 q))) (mul-le-mul_right q l)

    pub before_it : p + 150000 ≤ (b + 0x1_c000_0000) * 0x2000_0000 + 0x1000_0000 → 4 * n < square (halfway b)
    before_it near = lt_of_not-le no
      where
        no : square (halfway b) ≤ 4 * n → ⊥
        no g =
            let h : T (le (point b) s) = subst (λ (z : Float). T (le (point b) z)) (sym sum) (round_mono binary64 (square (halfway b)) (2 ^ 300) n (2 ^ 298) (pow_pos 300) (pow_pos 298) (scale (square (halfway b)) n (2 ^ 298) g)) in
            let k : square (halfway b) * C ≤ A * 2 ^ 300 = values_of_le (point b) s (square (halfway b)) (2 ^ 300) A C point_positive s_pos (exact_point b from to) s_value h in
            let l : R * R * (C * 34359738368) ≤ A * 34359738367 * 2 ^ 2148 = combine_below (R * R) C 34359738368 (2 ^ 300) (square (halfway b)) A 34359738367 (2 ^ 2148) (pow_pos 300) (below b from to p near) k in
            lt_not_le (mul binary64 s less) (mul binary64 r r) (holds _ test-1)
            (subst (λ (z : Float). T (le z (mul binary64 s less))) (sym r_square)
            (subst (λ (z : Float). T (le (round binary64 false (R * R) (2 ^ 2148)) z)) (sym s_less)
            (round_mono binary64 (R * R) (2 ^ 2148) (A * 34359738367) (C * 34359738368) (pow_pos 2148) C-pos l)))

    pub past_it : (b + 0x1_c000_0000) * 0x2000_0000 + 0x1000_0000 + 150000 ≤ p → square (halfway b) < 4 * n
    past_it near = lt_of_not-le no
      where
        no : 4 * n ≤ square (halfway b) → ⊥
        no g =
            let h : T (le s (point b)) = subst (λ (z : Float). T (le z (point b))) (sym sum) (round_mono binary64 n (2 ^ 298) (square (halfway b)) (2 ^ 300) (pow_pos 298) (pow_pos 300) (scale' (square (halfway b)) n (2 ^ 298) g)) in
            let k : A * 2 ^ 300 ≤ square (halfway b) * C = values_of_le s (point b) A C (square (halfway b)) (2 ^ 300) s_pos point_positive s_value (exact_point b from to) h in
            let l : A * 34359738369 * 2 ^ 2148 ≤ R * R * (C * 34359738368) = combine_above (R * R) C 34359738368 (2 ^ 300) (square (halfway b)) A 34359738369 (2 ^ 2148) (pow_pos 300) (above b from to p near) k in
            lt_not_le (mul binary64 r r) (mul binary64 s more) (holds _ test-2)
            (subst (λ (z : Float). T (le z (mul binary64 r r))) (sym s_more)
            (subst (λ (z : Float). T (le (round binary64 false (A * 34359738369) (C * 34359738368)) z)) (sym r_square)
            (round_mono binary64 (A * 34359738369) (C * 34359738368) (R * R) (2 ^ 2148) C-pos (pow_pos 2148) l)))

-- ---- the pattern that the code takes: its points lie 150000 patterns or more on either side of r
pub record Taken (p b : ℕ) : Type 0 where
  pub small : b < 0x7f80_0000
  pub after : (b + 0x1_c000_0000) * 0x2000_0000 + 150000 ≤ p + 0x1000_0000
  pub before : p + 150000 ≤ (b + 0x1_c000_0000) * 0x2000_0000 + 0x1000_0000

-- the root lies past the point above the smallest normal pattern, as a sum of squares does where one of the patterns is past it
abbrev Normal : ℕ → Type 0
Normal n = square (halfway 0x80_0000) ≤ 4 * n

certified : (s : Float) (n p b : ℕ) → s ≡ round binary64 false n (2 ^ 298) → Normal n → Taken p b
    → lt (mul binary64 s less) (mul binary64 (of_bits binary64 p) (of_bits binary64 p)) ≡ true
    → lt (mul binary64 (of_bits binary64 p) (of_bits binary64 p)) (mul binary64 s more) ≡ true → b ≡ nearest_root n
certified s n p b sum w t u v = nearest_unique n b (record {
  range = le_of_lt t.small;
  lower = λ c e. inl (subst (λ (z : ℕ). square (halfway z) < 4 * n) (pred b c e) (past_it s n p sum lo hi u v (b - 1) (omega (arith, large)) (omega arith) (after b p large t.after)));
  upper = λ _. inl (before_it s n p sum lo hi u v b (le_of_lt large) t.small t.before);
})
  where
    lo : 4503599627370496 ≤ p
    lo = omega arith

    hi : p < 0x7ff0_0000_0000_0000
    hi = omega arith

    pred : (b c : ℕ) → b ≡ suc c → b - 1 ≡ c
    pred b c e = omega arith

    after : (b p : ℕ) → 0x80_0000 < b → (b + 0x1_c000_0000) * 0x2000_0000 + 150000 ≤ p + 0x1000_0000 → (b - 1 + 0x1_c000_0000) * 0x2000_0000 + 0x1000_0000 + 150000 ≤ p
    after b p l h = omega arith

    before : (b p : ℕ) → b ≤ 0x80_0000 → p + 150000 ≤ (b + 0x1_c000_0000) * 0x2000_0000 + 0x1000_0000 → p + 150000 ≤ (0x80_0000 + 0x1_c000_0000) * 0x2000_0000 + 0x1000_0000
    before b p l h = omega arith

    large : 0x80_0000 < b
    large = lt_of_not-le (λ (g : b ≤ 0x80_0000). not-le_of_lt (before_it s n p sum lo hi u v 0x80_0000 (lib.Dec.lit≤ tt) (lib.Dec.lit< tt) (before b p g t.before)) w)

-- one of two patterns whose sum is above twice the smallest normal pattern is past that
normal : (P Q : ℕ) → 0x100_0000 < P + Q → Normal (square (units_of P) + square (units_of Q))
normal P Q h = go (dec_le 0x80_0001 P)
  where
    add_left : (a b : ℕ) → a ≤ a + b
    add_left a b = omega arith

    add_right : (a b : ℕ) → b ≤ a + b
    add_right a b = omega arith

    under : (a b c : ℕ) → a < b → b ≤ c → a + b ≤ 2 * c
    under a b c h k = omega arith

    other : (P Q : ℕ) → 0x100_0000 < P + Q → P < 0x80_0001 → 0x80_0001 ≤ Q
    other P Q h l = omega arith

    times : (a m : ℕ) → a ≤ m → 4 * a ≤ 4 * m
    times a m k = omega arith

    one : (b m : ℕ) → 0x80_0001 ≤ b → square (units_of b) ≤ m → Normal m
    one b m l k =
        le_trans (sq_le (halfway 0x80_0000) (2 * units_of b) (unfold halfway in under (units_of 0x80_0000) (units_of 0x80_0001) (units_of b) (units_lt 0x80_0000 0x80_0001 (lib.Dec.lit< tt)) (units_le 0x80_0001 b l)))
        (le_trans (le_of_eq (sq_twice (units_of b))) (times (square (units_of b)) m k))

    go : Dec (0x80_0001 ≤ P) → Normal (square (units_of P) + square (units_of Q))
    go (yes l) = one P (square (units_of P) + square (units_of Q)) l (add_left (square (units_of P)) (square (units_of Q)))
    go (no l) = one Q (square (units_of P) + square (units_of Q)) (other P Q h (lt_of_not-le l)) (add_right (square (units_of P)) (square (units_of Q)))

taken : (x y s : Float) (p b : ℕ) → T (fits binary32 x) → T (fits binary32 y) → T (not (is_nan x)) → T (not (is_nan y)) → s ≡ total x y
    → 0x100_0000 < to_bits binary32 x % 2147483648 + to_bits binary32 y % 2147483648 → Taken p b
    → lt (mul binary64 s less) (mul binary64 (of_bits binary64 p) (of_bits binary64 p)) ≡ true
    → lt (mul binary64 (of_bits binary64 p) (of_bits binary64 p)) (mul binary64 s more) ≡ true → of_bits binary32 b ≡ hypot x y
unfolding is_nan
taken nan y s p b f g v w h o t k l = absurd v
taken (inf i) y s p b f g v w h o t k l = absurd (not_infinite s _ (h ∙ (unfold mul in left_infinite (unlike i i) (mul binary64 y y) (alike i) (square_plus binary64 y w))) k)
taken (fin i m e) nan s p b f g v w h o t k l = absurd w
taken (fin i m e) (inf j) s p b f g v w h o t k l = absurd (not_infinite s _ (h ∙ (unfold mul in right_infinite (unlike j j) (mul binary64 (fin i m e) (fin i m e)) (alike j) (square_plus binary64 (fin i m e) tt))) k)
taken (fin i m e) (fin j n d) s p b f g v w h o t k l =
    let a = finite_value i m e f in
    let c = finite_value j n d g in
    let P = to_bits binary32 (fin i m e) % 2147483648 in
    let Q = to_bits binary32 (fin j n d) % 2147483648 in
    let is = add_at binary64 (mul binary64 (fin i m e) (fin i m e)) (mul binary64 (fin j n d) (fin j n d)) (square (units_of P)) (square (units_of Q)) (2 ^ 298) (pow_pos 298) (square_value P a.0 i m e a.1) (square_value Q c.0 j n d c.1) in
    ap (of_bits binary32) (certified s (square (units_of P) + square (units_of Q)) p b (h ∙ is) (normal P Q o) t k l)
    ∙ finite (fin i m e) (fin j n d) P Q (shape (fin i m e) f) (shape (fin j n d) g) a.0 c.0

-- ---- by the numbers that the code has: z is r's pattern and 2 ^ 28, less 0x1_c000_0000 times 2 ^ 29, which wraps
near_enough : (p z : ℕ) → p < 2 ^ 64 → z ≡ (p + 0xc800_0000_1000_0000) % 2 ^ 64 → 1200000 ≤ z % 0x2000_0000 * 8 → z % 0x2000_0000 * 8 ≤ 4293767296 → z / 0x2000_0000 < 0x7f7f_ffff
    → Taken p (z / 0x2000_0000)
near_enough p z h e a b c =
    let w : p + 0x1000_0000 ≡ z + 0x3800_0000_0000_0000 = omega arith in
    record { small = omega arith; after = omega arith; before = omega arith }

pub sure : (x y s r : Float) (z : ℕ) → T (fits binary32 x) → T (fits binary32 y) → T (not (is_nan x)) → T (not (is_nan y)) → s ≡ total x y
    → 0x100_0000 < to_bits binary32 x % 2147483648 + to_bits binary32 y % 2147483648 → T (fits binary64 r)
    → z ≡ (to_bits binary64 r + 0xc800_0000_1000_0000) % 2 ^ 64 → 1200000 ≤ z % 0x2000_0000 * 8 → z % 0x2000_0000 * 8 ≤ 4293767296 → z / 0x2000_0000 < 0x7f7f_ffff
    → lt (mul binary64 s less) (mul binary64 r r) ≡ true → lt (mul binary64 r r) (mul binary64 s more) ≡ true → of_bits binary32 (z / 0x2000_0000) ≡ hypot x y
sure x y s r z f g v w h o q e a b c k l =
    let back = of_bits-to_bits binary64 r q in
    taken x y s (to_bits binary64 r) (z / 0x2000_0000) f g v w h o (near_enough (to_bits binary64 r) z (to_bits-lt binary64 r q) e a b c)
    (subst (λ (o : Float). lt (mul binary64 s less) (mul binary64 o o) ≡ true) (sym back) k)
    (subst (λ (o : Float). lt (mul binary64 o o) (mul binary64 s more) ≡ true) (sym back) l)
