-- `hypot` of finite values grows with the magnitude of each, and is at least either magnitude. Assumes nothing.
use Rattle.std.proofs.Common.{◌≡◌, ℕ, zero, suc, ◌+◌, ◌*◌, ◌/◌, ◌%◌, ◌^◌, ◌<◌, ◌≤◌, Bool, true, false, not, T, leb, ◌⊎◌, ℤ, sym, refl, ap, ◌∙◌, subst, inl, inr, true≢false, le_trans, le_of_eq, le_refl, lt_of_lt_of_le, le_of_suc-le-suc, le-add_right, lt_of_le_of_lt, le_of_lt, add-le-add, eq-or-lt_of_le, lt_of_not-le, mul-div_cancel, arith, T_not}
use lib.Ieee.{Float, nan, inf, fin, binary32, down, le, fits, is_nan, of_bits, to_bits}
use lib.Ieee.Fits.{down_pos}
use lib.Ieee.Bits.{of_bits-fits, to_bits-of_bits}
use lib.Ieee.Digits.{Equals}
use borrow.Author.Tests.{lt-leb}
use Rattle.floats.specs.Height.{mid, height, mag}
use Rattle.floats.specs.Values.{Number, Finite}
use Rattle.floats.proofs.SignBit.{sign_bit}
use Rattle.floats.specs.Leaves.{negative, with_sign, abs, minimum_number}
use Rattle.hypot.specs.Hypot.{units_of, halfway, past, nearest_root, square, hypot}
use Rattle.hypot.specs.Nearest.{After, Nearest}
use Rattle.hypot.proofs.Root.Units.{units_lt, units_le}
use Rattle.hypot.proofs.Root.Seek.{past_yes, sq_lt, sq_le, sq_twice}
use Rattle.hypot.proofs.Root.Nearest.{past_says, past_said, not_past_said, past_before, nearest_law, nearest_unique}
use Rattle.hypot.proofs.Root.Values.{shape, root_le, units_are}
use Rattle.hypot.proofs.Laws.Signs.{hypot_comm}
use Rattle.floats.proofs.Laws.Height.{fin_height, height_top, sign_off}
use Rattle.floats.proofs.Laws.Order.{le→≤, ≤→le, le_numbers, number}
use Rattle.floats.proofs.Laws.MinMax.{min_left}
use Rattle.floats.proofs.Laws.Rounding.{number_of_height}

-- ---- the root's pattern grows with the number
past_grows : (n k c : ℕ) → n ≤ k → T (past n c) → T (past k c)
past_grows n k c h t = go (past_says n c t) (eq-or-lt_of_le h)
  where
    four : (x y : ℕ) → x < 4 * n → x < 4 * k
    four x y l = omega arith

    go : After n (halfway c) (suc c) → (n ≡ k) ⊎ (n < k) → T (past k c)
    go a (inl e) = subst (λ (z : ℕ). T (past z c)) e t
    go (inl l) (inr g) = past_yes k c (lt_of_lt_of_le l (omega arith))
    go (inr e) (inr g) = past_yes k c (lt_of_le_of_lt (le_of_eq e.0) (omega arith))

pub root_mono : (n k : ℕ) → n ≤ k → nearest_root n ≤ nearest_root k
root_mono n k h = le_of_suc-le-suc (lt_of_not-le (λ (l : suc (nearest_root k) ≤ nearest_root n). crossed (nearest_root n) (nearest_root k) (nearest_law n) (nearest_law k) l))
  where
    crossed : (b c : ℕ) → Nearest n b → Nearest k c → c < b → ⊥
    crossed zero c p q l = omega arith
    crossed (suc d) c p q l = T_not (past k c) (not_past_said k c (q.upper (small c d l p.range))) (down (eq-or-lt_of_le (le_of_suc-le-suc l)))
      where
        small : (c d : ℕ) → c < suc d → suc d ≤ 0x7f80_0000 → c < 0x7f80_0000
        small c d l r = omega arith

        here : T (past k d)
        here = past_grows n k d h (past_said n d (p.lower d refl))

        down : (c ≡ d) ⊎ (c < d) → T (past k c)
        down (inl e) = subst (λ (z : ℕ). T (past k z)) (sym e) here
        down (inr g) = past_before k d c g here

-- the root of a square is what was squared
pub root_square : (b : ℕ) → b ≤ 0x7f80_0000 → nearest_root (square (units_of b)) ≡ b
unfolding halfway
root_square b h = sym (nearest_unique (square (units_of b)) b (record { range = h; lower = lower; upper = λ _. inl upper }))
  where
    lower : (c : ℕ) → b ≡ suc c → After (square (units_of b)) (halfway c) b
    lower c e = inl (lt_of_lt_of_le (sq_lt (halfway c) (2 * units_of b) (under (units_of c) (units_of (suc c)) (units_of b) (units_lt c b (omega arith)) (le_of_eq (ap units_of (sym e))))) (le_of_eq (sq_twice (units_of b))))
      where
        under : (x y z : ℕ) → x < z → y ≤ z → x + y < 2 * z
        under x y z p q = omega arith

    upper : 4 * square (units_of b) < square (halfway b)
    upper = lt_of_le_of_lt (le_of_eq (sym (sq_twice (units_of b)))) (sq_lt (2 * units_of b) (halfway b) (over (units_of b) (units_of (suc b)) (units_lt b (suc b) (le_refl (suc b)))))
      where
        over : (x y : ℕ) → x < y → 2 * x < x + y
        over x y p = omega arith

-- ---- the heights of the patterns
equals_number : (x : Float) (a c : ℕ) → Equals x a c → T (not (is_nan x))
unfolding is_nan
equals_number nan a c h = absurd h
equals_number (inf s) a c h = absurd h
equals_number (fin s m e) a c h = tt

pattern_sign : (b : ℕ) → b < 0x7f80_0000 → negative (of_bits binary32 b) ≡ false
pattern_sign b h =
    sym (sign_bit (of_bits binary32 b) (of_bits-fits binary32 b))
    ∙ ap (leb 2147483648) (to_bits-of_bits binary32 b (omega arith) (equals_number (of_bits binary32 b) (units_of b) (2 ^ 149) (units_are b h)))
    ∙ lt-leb 2147483648 b (omega arith)

sign_at : (b : ℕ) → b ≤ 0x7f80_0000 → negative (of_bits binary32 b) ≡ false
sign_at b h = go (eq-or-lt_of_le h)
  where
    go : (b ≡ 0x7f80_0000) ⊎ (b < 0x7f80_0000) → negative (of_bits binary32 b) ≡ false
    go (inl e) = ap (λ (z : ℕ). negative (of_bits binary32 z)) e ∙ unfold of_bits negative in refl
    go (inr l) = pattern_sign b l

pattern_height : (b : ℕ) → b < 0x7f80_0000 → height binary32 (of_bits binary32 b) ≡ mid binary32 + units_of b
unfolding negative
pattern_height b h = go (of_bits binary32 b) (units_are b h) (pattern_sign b h)
  where
    go : (x : Float) → Equals x (units_of b) (2 ^ 149) → negative x ≡ false → height binary32 x ≡ mid binary32 + units_of b
    go nan e n = absurd e
    go (inf s) e n = absurd e
    go (fin true m d) e n = absurd (true≢false n)
    go (fin false m d) e n = fin_height binary32 false m d ∙ ap (λ (z : ℕ). mid binary32 + z) (ap (λ (z : ℕ). z / down d) e ∙ mul-div_cancel (units_of b) (down_pos d))

infinite_height : height binary32 (of_bits binary32 0x7f80_0000) ≡ mid binary32 + mid binary32
unfolding of_bits height
infinite_height = refl

pattern_number : (b : ℕ) → b ≤ 0x7f80_0000 → Number binary32 (of_bits binary32 b)
pattern_number b h = go (eq-or-lt_of_le h)
  where
    go : (b ≡ 0x7f80_0000) ⊎ (b < 0x7f80_0000) → Number binary32 (of_bits binary32 b)
    go (inl e) = number_of_height binary32 (of_bits binary32 b) (of_bits-fits binary32 b) (le_of_eq (ap (λ (z : ℕ). height binary32 (of_bits binary32 z)) e ∙ infinite_height))
    go (inr l) = record { fit = of_bits-fits binary32 b; no_nan = equals_number (of_bits binary32 b) (units_of b) (2 ^ 149) (units_are b l) }

pub patterns_rise : (b c : ℕ) → b ≤ c → c ≤ 0x7f80_0000 → height binary32 (of_bits binary32 b) ≤ height binary32 (of_bits binary32 c)
patterns_rise b c h l = go (eq-or-lt_of_le l)
  where
    go : (c ≡ 0x7f80_0000) ⊎ (c < 0x7f80_0000) → height binary32 (of_bits binary32 b) ≤ height binary32 (of_bits binary32 c)
    go (inl e) = le_trans (height_top binary32 (of_bits binary32 b) (of_bits-fits binary32 b) (pattern_number b (le_trans h l)).no_nan) (le_of_eq (sym (ap (λ (z : ℕ). height binary32 (of_bits binary32 z)) e ∙ infinite_height)))
    go (inr g) = le_trans (le_of_eq (pattern_height b (lt_of_le_of_lt h g))) (le_trans (add-le-add (le_refl (mid binary32)) (units_le b c h)) (le_of_eq (sym (pattern_height c g))))

abs_height : (s : Bool) (m : ℕ) (e : ℤ) → height binary32 (abs (fin s m e)) ≡ mid binary32 + mag binary32 m e
unfolding with_sign
abs_height s m e = fin_height binary32 false m e

-- ---- the laws, over the magnitudes in units
hypot_of : (s t : Bool) (m n : ℕ) (e d : ℤ) → hypot (fin s m e) (fin t n d) ≡ of_bits binary32 (nearest_root (square (mag binary32 m e) + square (mag binary32 n d)))
unfolding hypot
hypot_of s t m n e d = refl

pub hypot_number : (x y : Float) → Finite binary32 x → Finite binary32 y → Number binary32 (hypot x y)
hypot_number nan y p q = absurd p.finite
hypot_number (inf s) y p q = absurd p.finite
hypot_number (fin s m e) nan p q = absurd q.finite
hypot_number (fin s m e) (inf t) p q = absurd q.finite
hypot_number (fin s m e) (fin t n d) p q =
    subst (λ (v : Float). Number binary32 v) (sym (hypot_of s t m n e d)) (pattern_number (nearest_root (square (mag binary32 m e) + square (mag binary32 n d))) (root_le (square (mag binary32 m e) + square (mag binary32 n d))))

pub abs_number : (x : Float) → Finite binary32 x → Number binary32 (abs x)
unfolding with_sign is_nan
abs_number nan p = absurd p.finite
abs_number (inf s) p = absurd p.finite
abs_number (fin s m e) p = record { fit = sign_off binary32 s m e p.fit; no_nan = tt }

abs_mag : (s u : Bool) (m k : ℕ) (e g : ℤ) → Finite binary32 (fin s m e) → Finite binary32 (fin u k g) → le (abs (fin s m e)) (abs (fin u k g)) ≡ true → mag binary32 m e ≤ mag binary32 k g
unfolding with_sign
abs_mag s u m k e g p q h = cancel (mid binary32) (mag binary32 m e) (mag binary32 k g) (le_trans (le_of_eq (sym (fin_height binary32 false m e))) (le_trans (le→≤ binary32 (fin false m e) (fin false k g) (abs_number (fin s m e) p) (abs_number (fin u k g) q) h) (le_of_eq (fin_height binary32 false k g))))
  where
    cancel : (M a b : ℕ) → M + a ≤ M + b → a ≤ b
    cancel M a b h = omega arith

pub hypot_mono : (x y x' y' : Float) → Finite binary32 x → Finite binary32 y → Finite binary32 x' → Finite binary32 y' → le (abs x) (abs x') ≡ true → le (abs y) (abs y') ≡ true → le (hypot x y) (hypot x' y') ≡ true
hypot_mono x y x' y' p q p' q' h k = ≤→le binary32 (hypot x y) (hypot x' y') (hypot_number x y p q) (hypot_number x' y' p' q') (rises x y x' y' p q p' q' h k)
  where
    rises : (x y x' y' : Float) → Finite binary32 x → Finite binary32 y → Finite binary32 x' → Finite binary32 y' → le (abs x) (abs x') ≡ true → le (abs y) (abs y') ≡ true → height binary32 (hypot x y) ≤ height binary32 (hypot x' y')
    rises nan y x' y' p q p' q' h k = absurd p.finite
    rises (inf s) y x' y' p q p' q' h k = absurd p.finite
    rises (fin s m e) nan x' y' p q p' q' h k = absurd q.finite
    rises (fin s m e) (inf t) x' y' p q p' q' h k = absurd q.finite
    rises (fin s m e) (fin t n d) nan y' p q p' q' h k = absurd p'.finite
    rises (fin s m e) (fin t n d) (inf u) y' p q p' q' h k = absurd p'.finite
    rises (fin s m e) (fin t n d) (fin u i g) nan p q p' q' h k = absurd q'.finite
    rises (fin s m e) (fin t n d) (fin u i g) (inf w) p q p' q' h k = absurd q'.finite
    rises (fin s m e) (fin t n d) (fin u i g) (fin w j b) p q p' q' h k =
        let N = square (mag binary32 m e) + square (mag binary32 n d) in
        let K = square (mag binary32 i g) + square (mag binary32 j b) in
        let l : N ≤ K = add-le-add (sq_le (mag binary32 m e) (mag binary32 i g) (abs_mag s u m i e g p p' h)) (sq_le (mag binary32 n d) (mag binary32 j b) (abs_mag t w n j d b q q' k)) in
        le_trans (le_of_eq (ap (height binary32) (hypot_of s t m n e d)))
        (le_trans (patterns_rise (nearest_root N) (nearest_root K) (root_mono N K l) (root_le K)) (le_of_eq (sym (ap (height binary32) (hypot_of u w i j g b)))))

pub hypot_left : (x y : Float) → Finite binary32 x → Finite binary32 y → le (abs x) (hypot x y) ≡ true
hypot_left x y p q = ≤→le binary32 (abs x) (hypot x y) (abs_number x p) (hypot_number x y p q) (reaches x y p q)
  where
    reaches : (x y : Float) → Finite binary32 x → Finite binary32 y → height binary32 (abs x) ≤ height binary32 (hypot x y)
    reaches nan y p q = absurd p.finite
    reaches (inf s) y p q = absurd p.finite
    reaches (fin s m e) nan p q = absurd q.finite
    reaches (fin s m e) (inf t) p q = absurd q.finite
    reaches (fin s m e) (fin t n d) p q =
        let b = to_bits binary32 (fin s m e) % 2147483648 in
        let N = square (mag binary32 m e) + square (mag binary32 n d) in
        let h = shape (fin s m e) p.fit in
        let l : b ≤ nearest_root N =
        le_trans (le_of_eq (sym (root_square b (le_of_lt h.0))))
        (root_mono (square (units_of b)) N (le_trans (le_of_eq (ap square (sym h.1))) (le-add_right (square (mag binary32 m e)) (square (mag binary32 n d))))) in
        le_trans (le_of_eq (abs_height s m e ∙ ap (λ (z : ℕ). mid binary32 + z) h.1 ∙ sym (pattern_height b h.0)))
        (le_trans (patterns_rise b (nearest_root N) l (root_le N)) (le_of_eq (sym (ap (height binary32) (hypot_of s t m n e d)))))

pub hypot_right : (x y : Float) → Finite binary32 x → Finite binary32 y → le (abs y) (hypot x y) ≡ true
hypot_right x y p q = ap (le (abs y)) (hypot_comm x y) ∙ hypot_left y x q p

-- ---- a fold by min may leave out a point that is already too far in one coordinate
pub hypot_sign : (x y : Float) → negative (hypot x y) ≡ false
unfolding hypot negative
hypot_sign nan nan = refl
hypot_sign nan (inf t) = refl
hypot_sign nan (fin t n d) = refl
hypot_sign (inf s) y = refl
hypot_sign (fin s m e) nan = refl
hypot_sign (fin s m e) (inf t) = refl
hypot_sign (fin s m e) (fin t n d) = sign_at (nearest_root (square (mag binary32 m e) + square (mag binary32 n d))) (root_le (square (mag binary32 m e) + square (mag binary32 n d)))

pub hypot_skips : (least x y : Float) → Number binary32 least → Finite binary32 x → Finite binary32 y → le least (abs x) ≡ true → minimum_number least (hypot x y) ≡ least
hypot_skips least x y n p q h =
    min_left binary32 least (hypot x y) n.fit (hypot_number x y p q).fit (hypot_sign x y)
    (le_trans (le→≤ binary32 least (abs x) n (abs_number x p) h) (le→≤ binary32 (abs x) (hypot x y) (abs_number x p) (hypot_number x y p q) (hypot_left x y p q)))

-- ---- the same for every value of the format, a NaN and an infinity too
min_nan : (least : Float) → T (not (is_nan least)) → minimum_number least nan ≡ least
unfolding minimum_number is_nan
min_nan nan h = absurd h
min_nan (inf s) h = refl
min_nan (fin s m e) h = refl

min_infinite : (least : Float) → Number binary32 least → minimum_number least (inf false) ≡ least
unfolding negative height fits
min_infinite least n = min_left binary32 least (inf false) n.fit tt refl (height_top binary32 least n.fit n.no_nan)

pub hypot_beyond : (least x y : Float) → T (fits binary32 least) → T (fits binary32 x) → T (fits binary32 y) → le least (abs x) ≡ true → minimum_number least (hypot x y) ≡ least
unfolding hypot with_sign is_nan
hypot_beyond least x y n p q h = cases x y p q h
  where
    finds : Number binary32 least
    finds = number binary32 least n (le_numbers least (abs x) h).0

    cases : (x y : Float) → T (fits binary32 x) → T (fits binary32 y) → le least (abs x) ≡ true → minimum_number least (hypot x y) ≡ least
    cases nan y p q h = absurd (true≢false (le_numbers least nan h).1)
    cases (inf s) y p q h = min_infinite least finds
    cases (fin s m e) nan p q h = min_nan least finds.no_nan
    cases (fin s m e) (inf t) p q h = min_infinite least finds
    cases (fin s m e) (fin t m' e') p q h = hypot_skips least (fin s m e) (fin t m' e') finds (record { fit = p; finite = tt }) (record { fit = q; finite = tt }) h
