-- The remainder of two floats by their patterns: in units of 2 ^ -149 it is the remainder of two whole numbers. Assumes nothing.
use Rattle.std.proofs.Common.{◌≡◌, ℕ, zero, suc, ◌+◌, ◌-◌, ◌*◌, ◌/◌, ◌%◌, ◌^◌, ◌<◌, ◌≤◌, Bool, true, false, cond, T, leb, ltb, eqb, ◌&&◌, ◌⊎◌, inl, inr, ℤ, sym, refl, ap, ◌∙◌, subst, true≢false, mul_comm, mul_assoc, mod-lt, mul-div_cancel, add-mul, ne_eqb, zero-mul, mul-pos, lt_of_lt_of_le, lt_of_le_of_lt, le_of_lt, le_of_eq, le_trans, mod-eq_of_lt, zero-lt-suc, eq-or-lt_of_le, lit<, arith}
use Rattle.std.proofs.lemmas.Nat.{mul-mod_second, mod-mul-add, div-add-mod'}
use native.Mathlib.Nat.{mul_right_comm, eq_of_mul-eq-mul_right, mul-lt-mul_of_pos_right, lt_of_mul-lt-mul_right, pow-le-pow_right, mul-le-mul, lt_irrefl}
use Prim.Native.Nat.{zero-le}
use borrow.Author.Tests.{le-leb, lt-leb, leb-true, leb-false, ltb-true, ltb-false}
use lib.Ieee.{Float, nan, inf, fin, binary32, up, down, odd, round, rem, of_fields, of_bits, to_bits, fits}
use lib.Ieee.Exact.{HasValue, odd_sign, round_exact}
use lib.Ieee.Digits.{back}
use lib.Ieee.Fits.{up_pos, down_pos, round-fits}
use lib.Ieee.Bits.{of_bits-fits, of_bits-to_bits, to_bits-lt}
use lib.Pow.{pow-add, pow_pos, shl_lt}
use Rattle.lists.proofs.Bools.{both_true}
use Rattle.floats.specs.Height.{mag}
use Rattle.floats.proofs.Laws.Signs.{same_value}
use Rattle.floats.specs.Units.{exponent_of, significand_of, units_in}

-- ---- a number that is shifted up step by step
pub step : (a b m j n : ℕ) → n ≡ m + j → a * 2 ^ m % b * 2 ^ j % b ≡ a * 2 ^ n % b
step a b m j n e =
    ap (λ (z : ℕ). z % b) (mul_comm (a * 2 ^ m % b) (2 ^ j))
    ∙ mul-mod_second (2 ^ j) (a * 2 ^ m) b
    ∙ ap (λ (z : ℕ). z % b) (mul_comm (2 ^ j) (a * 2 ^ m) ∙ mul_assoc a (2 ^ m) (2 ^ j) ∙ ap (λ (z : ℕ). a * z) (sym (pow-add 2 m j) ∙ ap (λ (z : ℕ). 2 ^ z) (sym e)))

-- a shift by less than 32 loses nothing
pub shifted_up : (r k : ℕ) → r < 16777216 → k < 32 → r * 2 ^ k % 18446744073709551616 ≡ r * 2 ^ k
shifted_up r k h l =
    let most : 24 + k ≤ 64 = omega arith in
    let powers : 2 ^ (24 + k) ≤ 2 ^ 64 = pow-le-pow_right (lit< tt) most in
    mod-eq_of_lt (lt_of_lt_of_le (shl_lt 24 k h) powers)

-- ---- the magnitude of a significand and an exponent
pub units_at : (e s : ℕ) → (8388608 ≤ s) ⊎ (e ≡ 0) → s < 16777216 → units_in (e * 8388608 + s) ≡ s * 2 ^ e
unfolding units_in
units_at e s h l = ap (λ (z : ℕ). significand_of (e * 8388608 + s) * 2 ^ z) (fields h) ∙ ap (λ (z : ℕ). z * 2 ^ e) (rest h)
  where
    fields : (8388608 ≤ s) ⊎ (e ≡ 0) → exponent_of (e * 8388608 + s) ≡ e
    fields (inl k) = omega arith
    fields (inr k) = omega arith

    rest : (8388608 ≤ s) ⊎ (e ≡ 0) → significand_of (e * 8388608 + s) ≡ s
    rest (inl k) = omega arith
    rest (inr k) = omega arith

-- one digit less before the significand
pub doubled : (s e k : ℕ) → e ≡ k + 1 → s * 2 * 2 ^ k ≡ s * 2 ^ e
doubled s e k h = mul_assoc s 2 (2 ^ k) ∙ ap (λ (z : ℕ). s * z) (mul_comm 2 (2 ^ k) ∙ sym (pow-add 2 k 1) ∙ ap (λ (z : ℕ). 2 ^ z) (sym h))

pub settled : (s e : ℕ) → (ltb s 8388608 && ltb 0 e) ≡ false → (8388608 ≤ s) ⊎ (e ≡ 0)
settled s e h = go (ltb s 8388608) (ltb 0 e) refl refl h
  where
    go : (a b : Bool) → ltb s 8388608 ≡ a → ltb 0 e ≡ b → (a && b) ≡ false → (8388608 ≤ s) ⊎ (e ≡ 0)
    go true true p q k = absurd (true≢false k)
    go true false p q k = inr (let z : e ≤ 0 = ltb-false 0 e q in omega arith)
    go false b p q k = inl (ltb-false s 8388608 p)

pub both : (s e : ℕ) → (ltb s 8388608 && ltb 0 e) ≡ true → (s < 8388608) × (0 < e)
both s e h = let p = both_true (ltb s 8388608) (ltb 0 e) h in (ltb-true s 8388608 p.0, ltb-true 0 e p.1)

-- ---- what is known of a pattern's two parts
pub exponent_few : (b : ℕ) → b < 0x7f80_0000 → exponent_of b ≤ 253
exponent_few b h = omega arith

pub significand_small : (b : ℕ) → significand_of b < 16777216
significand_small b = omega arith

-- ---- the value of a pattern with a sign
abbrev pub signed : Bool → ℕ → ℕ
signed v b = cond v 2147483648 0 + b

value_at : (v : Bool) (x t : ℕ) → x < 255 → t < 8388608 → HasValue (of_fields binary32 v x t) v (units_in (x * 8388608 + t)) (2 ^ 149)
unfolding of_fields
value_at v zero t h l = subst (λ (z : ℕ). HasValue (odd 24 v t 0 149) v z (2 ^ 149)) (sym (units_at 0 t (inr refl) (omega arith))) (odd_sign 24 v t 0 149)
value_at v (suc x) t h l =
    subst (λ (z : Bool). HasValue (cond z (cond (eqb t 0) (inf v) nan) (odd 24 v (8388608 + t) x 149)) v (units_in (suc x * 8388608 + t)) (2 ^ 149)) (sym (ne_eqb (suc x) 255 (omega arith)))
    (subst (λ (z : ℕ). HasValue (odd 24 v (8388608 + t) x 149) v z (2 ^ 149))
    (sym (ap units_in (moved x t) ∙ units_at x (8388608 + t) (inl (omega arith)) (omega arith)))
    (odd_sign 24 v (8388608 + t) x 149))
  where
    moved : (x t : ℕ) → suc x * 8388608 + t ≡ x * 8388608 + (8388608 + t)
    moved x t = omega arith

pub bits_value : (v : Bool) (b : ℕ) → b < 0x7f80_0000 → HasValue (of_bits binary32 (signed v b)) v (units_in b) (2 ^ 149)
unfolding of_bits
bits_value v b h =
    subst (λ (w : Bool). HasValue (of_fields binary32 w (signed v b % 2147483648 / 8388608) (signed v b % 8388608)) v (units_in b) (2 ^ 149)) (sym (top_is v))
    (subst (λ (x : ℕ). HasValue (of_fields binary32 v x (signed v b % 8388608)) v (units_in b) (2 ^ 149)) (sym (field_is v))
    (subst (λ (t : ℕ). HasValue (of_fields binary32 v (b / 8388608) t) v (units_in b) (2 ^ 149)) (sym (digits_are v))
    (subst (λ (z : ℕ). HasValue (of_fields binary32 v (b / 8388608) (b % 8388608)) v (units_in z) (2 ^ 149)) joined (value_at v (b / 8388608) (b % 8388608) (omega arith) (omega arith)))))
  where
    top_is : (v : Bool) → leb 2147483648 (signed v b) ≡ v
    top_is true = le-leb 2147483648 (2147483648 + b) (omega arith)
    top_is false = lt-leb 2147483648 (0 + b) (omega arith)

    field_is : (v : Bool) → signed v b % 2147483648 / 8388608 ≡ b / 8388608
    field_is true = ap (λ (z : ℕ). z / 8388608) (off_top b h)
      where
        off_top : (b : ℕ) → b < 0x7f80_0000 → (2147483648 + b) % 2147483648 ≡ b
        off_top b h = omega arith
    field_is false = ap (λ (z : ℕ). z / 8388608) (same b h)
      where
        same : (b : ℕ) → b < 0x7f80_0000 → (0 + b) % 2147483648 ≡ b
        same b h = omega arith

    digits_are : (v : Bool) → signed v b % 8388608 ≡ b % 8388608
    digits_are true = omega arith
    digits_are false = omega arith

    joined : b / 8388608 * 8388608 + b % 8388608 ≡ b
    joined = omega arith

-- ---- two values of the format with one magnitude and one sign are the same
mag_is : (s v : Bool) (m a : ℕ) (e : ℤ) → HasValue (fin s m e) v a (2 ^ 149) → mag binary32 m e ≡ a
mag_is s v m a e h = ap (λ (z : ℕ). z / down e) h.1 ∙ mul-div_cancel a (down_pos e)

pub one_value : (x y : Float) (v : Bool) (a : ℕ) → T (fits binary32 x) → T (fits binary32 y) → HasValue x v a (2 ^ 149) → HasValue y v a (2 ^ 149) → x ≡ y
one_value nan y v a p q h k = absurd h
one_value (inf s) y v a p q h k = absurd h
one_value (fin s m e) nan v a p q h k = absurd k
one_value (fin s m e) (inf t) v a p q h k = absurd k
one_value (fin s m e) (fin t n d) v a p q h k =
    let sign : s ≡ t = h.0 ∙ sym k.0 in
    ap (λ (w : Bool). fin w m e) sign
    ∙ same_value binary32 t m n e d (subst (λ (w : Bool). T (fits binary32 (fin w m e))) sign p) q (mag_is s v m a e h ∙ sym (mag_is t v n a d k))

-- ---- the remainder of two fractions
scaled_rem : (a b c : ℕ) → 0 < b → 0 < c → a * c % (b * c) ≡ a % b * c
scaled_rem a b c h k =
    ap (λ (z : ℕ). z % (b * c)) (sym (ap (λ (z : ℕ). z + a % b * c) (sym (mul_assoc (a / b) b c)) ∙ sym (add-mul (a / b * b) (a % b) c) ∙ ap (λ (z : ℕ). z * c) (div-add-mod' a b)))
    ∙ mod-mul-add (a / b) (b * c) (a % b * c) (mul-lt-mul_of_pos_right (mod-lt a h) k)

rescaled : (x : Float) (s : Bool) (num den r l : ℕ) → 0 < den → num * l ≡ r * den → HasValue x s num den → HasValue x s r l
rescaled nan s num den r l p h v = v
rescaled (inf t) s num den r l p h v = v
rescaled (fin t m e) s num den r l p h v = (
  v.0,
  eq_of_mul-eq-mul_right den p (m * up e * l) (r * down e)
      (mul_right_comm (m * up e) l den
      ∙ ap (λ (x : ℕ). x * l) v.1
      ∙ mul_right_comm num (down e) l
      ∙ ap (λ (x : ℕ). x * down e) h
      ∙ mul_right_comm r den (down e)),
)

-- X and Y are the magnitudes, and q * 2 ^ j is the remainder of X by Y
module _ (s : Bool) (m n X Y q j : ℕ) (e d : ℤ) (left : m * up e * 2 ^ 149 ≡ X * down e) (right : n * up d * 2 ^ 149 ≡ Y * down d) (some : 0 < Y) (small : q < 2 ^ 24) (few : j ≤ 253) (is : X % Y ≡ q * 2 ^ j) where
  abbrev A : ℕ
  A = m * up e * down d

  abbrev B : ℕ
  B = n * up d * down e

  abbrev C : ℕ
  C = down e * down d

  over : A * 2 ^ 149 ≡ X * C
  over = mul_right_comm (m * up e) (down d) (2 ^ 149) ∙ ap (λ (z : ℕ). z * down d) left ∙ mul_assoc X (down e) (down d)

  under : B * 2 ^ 149 ≡ Y * C
  under =
      mul_right_comm (n * up d) (down e) (2 ^ 149) ∙ ap (λ (z : ℕ). z * down e) right ∙ mul_assoc Y (down d) (down e) ∙ ap (λ (z : ℕ). Y * z) (mul_comm (down d) (down e))

  some_c : 0 < C
  some_c = mul-pos (down_pos e) (down_pos d)

  some_b : 0 < B
  some_b = lt_of_mul-lt-mul_right (2 ^ 149) (subst (λ (z : ℕ). 0 * 2 ^ 149 < z) (sym under) (subst (λ (z : ℕ). z < Y * C) (sym (zero-mul (2 ^ 149))) (mul-pos some some_c)))

  exact : A % B * 2 ^ 149 ≡ q * 2 ^ j * C
  exact =
      sym (scaled_rem A B (2 ^ 149) some_b (pow_pos 149))
      ∙ ap (λ (z : ℕ). z % (B * 2 ^ 149)) over
      ∙ ap (λ (z : ℕ). X * C % z) under
      ∙ scaled_rem X Y C some some_c
      ∙ ap (λ (z : ℕ). z * C) is

  fine : q * 2 ^ j < 2 ^ 277
  fine = let most : 24 + j ≤ 277 = omega arith in lt_of_lt_of_le (shl_lt 24 j small) (pow-le-pow_right (lit< tt) most)

  pub rounded : HasValue (round binary32 s (A % B) C) s (q * 2 ^ j) (2 ^ 149)
  rounded = rescaled (round binary32 s (A % B) C) s (A % B) C (q * 2 ^ j) (2 ^ 149) some_c exact (round_exact binary32 s (A % B) C q j some_c small fine exact)

-- ---- a float by its pattern, of which b is the part without the sign
abbrev pub part : Float → ℕ
part x = to_bits binary32 x % 2147483648

split_at : (b : ℕ) → b < 4294967296 → b ≡ signed (leb 2147483648 b) (b % 2147483648)
split_at b h = go (leb 2147483648 b) refl
  where
    go : (v : Bool) → leb 2147483648 b ≡ v → b ≡ signed v (b % 2147483648)
    go true e = let k : 2147483648 ≤ b = leb-true 2147483648 b e in high b h k
      where
        high : (b : ℕ) → b < 4294967296 → 2147483648 ≤ b → b ≡ 2147483648 + b % 2147483648
        high b h k = omega arith
    go false e = let k : b < 2147483648 = leb-false 2147483648 b e in lower b k
      where
        lower : (b : ℕ) → b < 2147483648 → b ≡ 0 + b % 2147483648
        lower b k = omega arith

-- a finite float has the value of its pattern, and the sign is the top digit
pub own_value : (s : Bool) (m : ℕ) (e : ℤ) → T (fits binary32 (fin s m e)) → part (fin s m e) < 0x7f80_0000
    → HasValue (fin s m e) s (units_in (part (fin s m e))) (2 ^ 149) × (to_bits binary32 (fin s m e) ≡ signed s (part (fin s m e)))
own_value s m e f h =
    let x = fin s m e in
    let b = to_bits binary32 x in
    let v = leb 2147483648 b in
    let split = split_at b (to_bits-lt binary32 x f) in
    let value : HasValue x v (units_in (part x)) (2 ^ 149) =
    subst (λ (z : Float). HasValue z v (units_in (part x)) (2 ^ 149)) (ap (of_bits binary32) (sym split) ∙ of_bits-to_bits binary32 x f) (bits_value v (part x) h) in
    (subst (λ (w : Bool). HasValue x w (units_in (part x)) (2 ^ 149)) (sym value.0) value, split ∙ ap (λ (w : Bool). signed w (part x)) (sym value.0))

-- the highest field is no finite value
fields_top : (v w : Bool) (t m : ℕ) (e : ℤ) → of_fields binary32 v 255 t ≡ fin w m e → ⊥
unfolding of_fields
fields_top v w t m e h = go (eqb t 0) h
  where
    go : (z : Bool) → cond z (inf v) nan ≡ fin w m e → ⊥
    go true k = let z : ◌≡◌ {A = ℕ} 0 1 = cc in omega arith
    go false k = let z : ◌≡◌ {A = ℕ} 0 1 = cc in omega arith

pub finite_part : (s : Bool) (m : ℕ) (e : ℤ) → T (fits binary32 (fin s m e)) → part (fin s m e) < 0x7f80_0000
unfolding of_bits
finite_part s m e f =
    let b = to_bits binary32 (fin s m e) in
    elim (eq-or-lt_of_le (most b)) [
      | inl k ↦ absurd (fields_top (leb 2147483648 b) s (b % 8388608) m e (subst (λ (z : ℕ). of_fields binary32 (leb 2147483648 b) z (b % 8388608) ≡ fin s m e) k (of_bits-to_bits binary32 (fin s m e) f)))
      | inr k ↦ below b k
    ]
  where
    most : (b : ℕ) → b % 2147483648 / 8388608 ≤ 255
    most b = omega arith

    below : (b : ℕ) → b % 2147483648 / 8388608 < 255 → b % 2147483648 < 0x7f80_0000
    below b k = omega arith

-- ---- the remainder, case by case
nan_part : part nan ≡ 0x7fc0_0000
nan_part = unfold to_bits in refl

inf_part : (s : Bool) → part (inf s) ≡ 0x7f80_0000
inf_part true = unfold to_bits in refl
inf_part false = unfold to_bits in refl

pub past_x : (x y : Float) → T (fits binary32 x) → 0x7f80_0000 ≤ part x → nan ≡ rem binary32 x y
unfolding rem
past_x nan y f h = refl
past_x (inf s) y f h = refl
past_x (fin s m e) y f h = absurd (omega (arith, finite_part s m e f))

pub past_y : (x y : Float) → T (fits binary32 y) → 0x7f80_0000 < part y → nan ≡ rem binary32 x y
unfolding rem
past_y nan y f h = refl
past_y (inf s) y f h = refl
past_y (fin s m e) nan f h = refl
past_y (fin s m e) (inf t) f h = absurd (omega (arith, inf_part t))
past_y (fin s m e) (fin t n d) f h = absurd (omega (arith, finite_part t n d f))

pub y_zero : (x y : Float) → T (fits binary32 y) → part y ≡ 0 → nan ≡ rem binary32 x y
unfolding rem
y_zero nan y f h = refl
y_zero (inf s) y f h = refl
y_zero (fin s m e) nan f h = refl
y_zero (fin s m e) (inf t) f h = absurd (omega (arith, inf_part t))
y_zero (fin s m e) (fin t zero d) f h = refl
y_zero (fin s m e) (fin t (suc n) d) f h =
    let value = (own_value t (suc n) d f (finite_part t (suc n) d f)).0 in
    absurd (lt_irrefl 0 (subst (λ (z : ℕ). 0 < z) (value.1 ∙ ap (λ (z : ℕ). units_in z * down d) h ∙ ap (λ (z : ℕ). z * down d) nothing ∙ zero-mul (down d)) (mul-pos (mul-pos (zero-lt-suc n) (up_pos d)) (pow_pos 149))))
  where
    nothing : units_in 0 ≡ 0
    nothing = unfold units_in in refl

pub y_infinite : (x y : Float) → T (fits binary32 y) → part x < 0x7f80_0000 → part y ≡ 0x7f80_0000 → x ≡ rem binary32 x y
unfolding rem
y_infinite nan y f g h = refl
y_infinite (inf s) y f g h = absurd (omega (arith, inf_part s))
y_infinite (fin s m e) nan f g h = absurd (omega (arith, nan_part))
y_infinite (fin s m e) (inf t) f g h = refl
y_infinite (fin s m e) (fin t n d) f g h = absurd (omega (arith, finite_part t n d f))

-- both are finite and y is not 0: q * 2 ^ j is the remainder of their magnitudes, and r is a float of that value with the sign of x
decided : (s t : Bool) (m n q j : ℕ) (e d : ℤ) (r : Float) → T (fits binary32 (fin s m e)) → T (fits binary32 (fin t n d)) → T (fits binary32 r) → 0 < units_in (part (fin t n d)) → q < 2 ^ 24 → j ≤ 253
    → units_in (part (fin s m e)) % units_in (part (fin t n d)) ≡ q * 2 ^ j → HasValue r s (q * 2 ^ j) (2 ^ 149) → r ≡ rem binary32 (fin s m e) (fin t n d)
unfolding rem
decided s t m zero q j e d r f g k some small few is value =
    let zeroed = (own_value t 0 d g (finite_part t 0 d g)).0 in
    absurd (lt_irrefl 0 (subst (λ (z : ℕ). 0 < z) (sym zeroed.1 ∙ ap (λ (z : ℕ). z * 2 ^ 149) (zero-mul (up d)) ∙ zero-mul (2 ^ 149)) (mul-pos some (down_pos d))))
decided s t m (suc n) q j e d r f g k some small few is value =
    let result = round binary32 s (m * up e * down d % (suc n * up d * down e)) (down e * down d) in
    one_value r result s (q * 2 ^ j) k (round-fits binary32 s (m * up e * down d % (suc n * up d * down e)) (down e * down d)) value
    (rounded s m (suc n) (units_in (part (fin s m e))) (units_in (part (fin t (suc n) d))) q j e d (own_value s m e f (finite_part s m e f)).0.1 (own_value t (suc n) d g (finite_part t (suc n) d g)).0.1 some small few is)
    ∙ sym (ap (λ (z : Bool). cond z nan result) (ne_eqb (suc n) 0 (λ z. absurd (omega (arith, z)))))

-- the magnitude of x is the smaller one, by the exponents
under_by : (a c g h : ℕ) → a < 16777216 → 8388608 ≤ c → g < h → a * 2 ^ g < c * 2 ^ h
under_by a c g h k l o =
    let up_one : suc g ≤ h = o in
    let powers : 2 ^ suc g ≤ 2 ^ h = pow-le-pow_right (lit< tt) up_one in
    lt_of_lt_of_le (mul-lt-mul_of_pos_right k (pow_pos g))
    (le_trans (le_of_eq (mul_assoc 8388608 2 (2 ^ g) ∙ ap (λ (z : ℕ). 8388608 * z) (mul_comm 2 (2 ^ g) ∙ sym (pow-add 2 g 1) ∙ ap (λ (z : ℕ). 2 ^ z) (one_more g))))
    (mul-le-mul l powers))
  where
    one_more : (g : ℕ) → g + 1 ≡ suc g
    one_more g = omega arith

pub smaller : (x y : Float) → T (fits binary32 x) → T (fits binary32 y) → part x < 0x7f80_0000 → part y < 0x7f80_0000 → exponent_of (part x) < exponent_of (part y) → x ≡ rem binary32 x y
unfolding units_in
smaller nan y f g h k l = absurd (omega (arith, nan_part))
smaller (inf s) y f g h k l = absurd (omega (arith, inf_part s))
smaller (fin s m e) nan f g h k l = absurd (omega (arith, nan_part))
smaller (fin s m e) (inf t) f g h k l = absurd (omega (arith, inf_part t))
smaller (fin s m e) (fin t n d) f g h k l =
    let p = part (fin s m e) in
    let q = part (fin t n d) in
    let less : units_in p < units_in q = under_by (significand_of p) (significand_of q) (exponent_of p) (exponent_of q) (significand_small p) (led q (lt_of_le_of_lt zero-le l)) l in
    decided s t m n (significand_of p) (exponent_of p) e d (fin s m e) f g f (lt_of_le_of_lt zero-le less) (significand_small p) (exponent_few p h) (mod-eq_of_lt less) (own_value s m e f h).0
  where
    led : (q : ℕ) → 0 < exponent_of q → 8388608 ≤ significand_of q
    led q h = omega arith

remainder_of : (p q : ℕ) → exponent_of q ≤ exponent_of p → 0 < significand_of q
    → units_in p % units_in q ≡ significand_of p * 2 ^ (exponent_of p - exponent_of q) % significand_of q * 2 ^ exponent_of q
unfolding units_in
remainder_of p q l some =
    ap (λ (z : ℕ). z % (significand_of q * 2 ^ exponent_of q))
    (ap (λ (z : ℕ). significand_of p * 2 ^ z) (sym (back (exponent_of p) (exponent_of q) l))
    ∙ ap (λ (z : ℕ). significand_of p * z) (pow-add 2 (exponent_of p - exponent_of q) (exponent_of q))
    ∙ sym (mul_assoc (significand_of p) (2 ^ (exponent_of p - exponent_of q)) (2 ^ exponent_of q)))
    ∙ scaled_rem (significand_of p * 2 ^ (exponent_of p - exponent_of q)) (significand_of q) (2 ^ exponent_of q) some (pow_pos (exponent_of q))

pub larger : (x y : Float) (r P : ℕ) → T (fits binary32 x) → T (fits binary32 y) → part x < 0x7f80_0000 → part y < 0x7f80_0000 → (part y ≡ 0 → ⊥) → exponent_of (part y) ≤ exponent_of (part x)
    → r ≡ significand_of (part x) * 2 ^ (exponent_of (part x) - exponent_of (part y)) % significand_of (part y) → P < 0x7f80_0000 → units_in P ≡ r * 2 ^ exponent_of (part y)
    → of_bits binary32 (to_bits binary32 x - part x + P) ≡ rem binary32 x y
larger nan y r P f g h k o l is below value = absurd (omega (arith, nan_part))
larger (inf s) y r P f g h k o l is below value = absurd (omega (arith, inf_part s))
larger (fin s m e) nan r P f g h k o l is below value = absurd (omega (arith, nan_part))
larger (fin s m e) (inf t) r P f g h k o l is below value = absurd (omega (arith, inf_part t))
larger (fin s m e) (fin t n d) r P f g h k o l is below value =
    let p = part (fin s m e) in
    let q = part (fin t n d) in
    let some : 0 < significand_of q = positive q o in
    let small : r < 2 ^ 24 = subst (λ (z : ℕ). z < 2 ^ 24) (sym is) (lt_of_lt_of_le (mod-lt (significand_of p * 2 ^ (exponent_of p - exponent_of q)) some) (le_of_lt (significand_small q))) in
    ap (of_bits binary32) (moved (to_bits binary32 (fin s m e)) p P s (own_value s m e f h).1)
    ∙ decided s t m n r (exponent_of q) e d (of_bits binary32 (signed s P)) f g (of_bits-fits binary32 (signed s P)) (unfold units_in in mul-pos some (pow_pos (exponent_of q))) small (exponent_few q k)
    (remainder_of p q l some ∙ ap (λ (z : ℕ). z * 2 ^ exponent_of q) (sym is)) (subst (λ (z : ℕ). HasValue (of_bits binary32 (signed s P)) s z (2 ^ 149)) value (bits_value s P below))
  where
    positive : (q : ℕ) → (q ≡ 0 → ⊥) → 0 < significand_of q
    positive q o = omega arith

    moved : (b p P : ℕ) (s : Bool) → b ≡ signed s p → b - p + P ≡ signed s P
    moved b p P true e = omega arith
    moved b p P false e = omega arith
