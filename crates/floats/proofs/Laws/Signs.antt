-- Laws of signs: what the operations do when an operand, or each of them, changes its sign. Nothing is asked of the operands, in either format.
-- A sum that is exactly zero keeps its sign when both operands change theirs, so there the law is `Alike`: equal, or both of them zeros. Assumes nothing.
use mathlib.Core.Path.{◌≡◌, refl, sym, ap, ap₂, ◌∙◌, subst}
use mathlib.Core.Logic.{inl, inr}
use mathlib.Core.Bool.{Bool, true, false, not, ◌&&◌, ◌||◌, beq, cond}
use Prim.Native.Nat.{ℕ, zero, suc, ◌+◌, ◌-◌, ◌*◌, ◌/◌, ◌^◌, ◌<◌}
use native.Mathlib.Nat.{le_antisymm, mul_comm, mul-pos, add_comm, sub_self, zero-mul, zero-div, eq_of_mul-eq-mul_right}
use native.Mathlib.Omega.{arith}
use borrow.Author.Tests.{ltb-true, ltb-false, eqb-true, eqb-false, eq-eqb, ne_eqb}
use lib.IntN.{ℤ, pos}
use lib.Dec.{T, ltb, eqb}
use lib.Pow.{pow_pos}
use lib.Ieee.{Float, nan, inf, fin, Format, prec, emax, low, unlike, up, down, size, odd, units, round, neg, sum, add, sub, mul, lt, eq, le, below, level, to_bits, of_bits, fits, is_nan, top, hid}
use lib.Ieee.Bits.{of_bits-to_bits}
use lib.Ieee.Fits.{round_is, round-fits, down_pos}
use lib.Ieee.Exact.{HasValue, round_exact}
use Rattle.floats.specs.Leaves.{negative, with_sign, abs, copysign}
use Rattle.floats.specs.Values.{pos_zero, Alike}

-- ---- neg
pub neg_neg : (x : Float) → neg (neg x) ≡ x
unfolding neg
neg_neg nan = refl
neg_neg (inf true) = refl
neg_neg (inf false) = refl
neg_neg (fin true m e) = refl
neg_neg (fin false m e) = refl

odd_neg : (d : ℕ) (s : Bool) (q k l : ℕ) → odd d (not s) q k l ≡ neg (odd d s q k l)
unfolding odd neg
odd_neg d s zero k l = refl
odd_neg d s (suc q) k l = refl

units_neg : (f : Format) (s : Bool) (q k : ℕ) → units f (not s) q k ≡ neg (units f s q k)
unfolding units
units_neg f s q k = go (ltb (q * 2 ^ k) (2 ^ (low f + suc (emax f))))
  where
    go : (b : Bool) → cond b (odd (suc (prec f)) (not s) q k (low f)) (inf (not s)) ≡ neg (cond b (odd (suc (prec f)) s q k (low f)) (inf s))
    go true = odd_neg (suc (prec f)) s q k (low f)
    go false = unfold neg in refl

-- rounding is the same on both sides of zero
pub round_neg : (f : Format) (s : Bool) (n d : ℕ) → round f (not s) n d ≡ neg (round f s n d)
round_neg f s n d = round_is f (not s) n d ∙ units_neg f s _ _ ∙ ap neg (sym (round_is f s n d))

-- ---- products
unlike_not : (s t : Bool) → unlike (not s) t ≡ not (unlike s t)
unlike_not true true = refl
unlike_not true false = refl
unlike_not false true = refl
unlike_not false false = refl

unlike_comm : (s t : Bool) → unlike s t ≡ unlike t s
unlike_comm true true = refl
unlike_comm true false = refl
unlike_comm false true = refl
unlike_comm false false = refl

unless_zero : (b s t : Bool) → unlike (not s) t ≡ not (unlike s t) → cond b nan (inf (unlike (not s) t)) ≡ neg (cond b nan (inf (unlike s t)))
unfolding neg
unless_zero true s t e = refl
unless_zero false s t e = ap inf e

pub mul_comm_f : (f : Format) (x y : Float) → mul f x y ≡ mul f y x
unfolding mul
mul_comm_f f nan nan = refl
mul_comm_f f nan (inf t) = refl
mul_comm_f f nan (fin t n d) = refl
mul_comm_f f (inf s) nan = refl
mul_comm_f f (inf s) (inf t) = ap inf (unlike_comm s t)
mul_comm_f f (inf s) (fin t n d) = ap (λ (b : Bool). cond (eqb n 0) nan (inf b)) (unlike_comm s t)
mul_comm_f f (fin s m e) nan = refl
mul_comm_f f (fin s m e) (inf t) = ap (λ (b : Bool). cond (eqb m 0) nan (inf b)) (unlike_comm s t)
mul_comm_f f (fin s m e) (fin t n d) =
    ap (λ (b : Bool). round f b (m * up e * (n * up d)) (down e * down d)) (unlike_comm s t)
    ∙ ap₂ (λ (a c : ℕ). round f (unlike t s) a c) (mul_comm (m * up e) (n * up d)) (mul_comm (down e) (down d))

pub mul_neg_left : (f : Format) (x y : Float) → mul f (neg x) y ≡ neg (mul f x y)
unfolding mul neg
mul_neg_left f nan y = refl
mul_neg_left f (inf s) nan = refl
mul_neg_left f (inf s) (inf t) = ap inf (unlike_not s t)
mul_neg_left f (inf s) (fin t n d) = unless_zero (eqb n 0) s t (unlike_not s t)
mul_neg_left f (fin s m e) nan = refl
mul_neg_left f (fin s m e) (inf t) = unless_zero (eqb m 0) s t (unlike_not s t)
mul_neg_left f (fin s m e) (fin t n d) =
    ap (λ (b : Bool). round f b (m * up e * (n * up d)) (down e * down d)) (unlike_not s t) ∙ round_neg f (unlike s t) (m * up e * (n * up d)) (down e * down d)

pub mul_neg_right : (f : Format) (x y : Float) → mul f x (neg y) ≡ neg (mul f x y)
mul_neg_right f x y = mul_comm_f f x (neg y) ∙ mul_neg_left f y x ∙ ap neg (mul_comm_f f y x)

pub mul_neg_neg : (f : Format) (x y : Float) → mul f (neg x) (neg y) ≡ mul f x y
mul_neg_neg f x y = mul_neg_left f x (neg y) ∙ ap neg (mul_neg_right f x y) ∙ neg_neg (mul f x y)

-- ---- sums and differences
pub sub_is_add : (f : Format) (x y : Float) → sub f x y ≡ add f x (neg y)
unfolding sub
sub_is_add f x y = refl

pub sub_neg : (f : Format) (x y : Float) → sub f x (neg y) ≡ add f x y
sub_neg f x y = sub_is_add f x (neg y) ∙ ap (add f x) (neg_neg y)

-- of two numbers one is the smaller, or they are equal
data Tri (a b : ℕ) : Type 0 where
  less : ltb a b ≡ true → ltb b a ≡ false → Tri a b
  more : ltb a b ≡ false → ltb b a ≡ true → Tri a b
  even : ltb a b ≡ false → ltb b a ≡ false → a ≡ b → Tri a b

tri : (a b : ℕ) → Tri a b
tri a b = go (ltb a b) (ltb b a) refl refl
  where
    both : a < b → b < a → ⊥
    both p q = omega arith

    go : (x y : Bool) → ltb a b ≡ x → ltb b a ≡ y → Tri a b
    go true true p q = absurd (both (ltb-true a b p) (ltb-true b a q))
    go true false p q = less p q
    go false true p q = more p q
    go false false p q = even p q (le_antisymm (ltb-false b a q) (ltb-false a b p))

gone : {a b : ℕ} → a ≡ b → a - b ≡ b - a
gone {a} {b} e = omega arith

swap : (f : Format) (s t : Bool) (a b c : ℕ) → beq s t ≡ false → beq t s ≡ false → Tri a b → sum f s a t b c ≡ sum f t b s a c
unfolding sum
swap f true true a b c p q o = absurd (subst T p tt)
swap f false false a b c p q o = absurd (subst T p tt)
swap f true false a b c p q (less h k) = simp (h, k)
swap f true false a b c p q (more h k) = simp (h, k)
swap f true false a b c p q (even h k e) = simp (h, k) (ap (λ (n : ℕ). round f false n c) (gone e))
swap f false true a b c p q (less h k) = simp (h, k)
swap f false true a b c p q (more h k) = simp (h, k)
swap f false true a b c p q (even h k e) = simp (h, k) (ap (λ (n : ℕ). round f false n c) (gone e))

sum_comm : (f : Format) (s : Bool) (a : ℕ) (t : Bool) (b c : ℕ) → sum f s a t b c ≡ sum f t b s a c
unfolding sum
sum_comm f true a true b c = ap (λ (n : ℕ). round f true n c) (add_comm a b)
sum_comm f false a false b c = ap (λ (n : ℕ). round f false n c) (add_comm a b)
sum_comm f true a false b c = swap f true false a b c refl refl (tri a b)
sum_comm f false a true b c = swap f false true a b c refl refl (tri a b)

pub add_comm_f : (f : Format) (x y : Float) → add f x y ≡ add f y x
unfolding add
add_comm_f f nan nan = refl
add_comm_f f nan (inf t) = refl
add_comm_f f nan (fin t n d) = refl
add_comm_f f (inf s) nan = refl
add_comm_f f (inf true) (inf true) = refl
add_comm_f f (inf true) (inf false) = refl
add_comm_f f (inf false) (inf true) = refl
add_comm_f f (inf false) (inf false) = refl
add_comm_f f (inf s) (fin t n d) = refl
add_comm_f f (fin s m e) nan = refl
add_comm_f f (fin s m e) (inf t) = refl
add_comm_f f (fin s m e) (fin t n d) = sum_comm f s (m * up e * down d) t (n * up d * down e) (down e * down d) ∙ ap (sum f t (n * up d * down e) s (m * up e * down d)) (mul_comm (down e) (down d))

-- ---- equal but for the sign of a zero
pub alike_refl : (x : Float) → Alike x x
alike_refl x = inl refl

pub alike_sym : (x y : Float) → Alike x y → Alike y x
alike_sym x y (inl e) = inl (sym e)
alike_sym x y (inr h) = inr (h.1, h.0)

pub alike_trans : (x y z : Float) → Alike x y → Alike y z → Alike x z
alike_trans x y z (inl e) k = subst (λ (w : Float). Alike w z) (sym e) k
alike_trans x y z (inr h) (inl e) = inr (h.0, ap abs (sym e) ∙ h.1)
alike_trans x y z (inr h) (inr k) = inr (h.0, k.1)

pub alike_abs : (x y : Float) → Alike x y → abs x ≡ abs y
alike_abs x y (inl e) = ap abs e
alike_abs x y (inr h) = h.0 ∙ sym h.1

pub abs_neg : (x : Float) → abs (neg x) ≡ abs x
unfolding with_sign neg
abs_neg nan = refl
abs_neg (inf s) = refl
abs_neg (fin s m e) = refl

pub alike_neg : (x y : Float) → Alike x y → Alike (neg x) (neg y)
alike_neg x y (inl e) = inl (ap neg e)
alike_neg x y (inr h) = inr (abs_neg x ∙ h.0, abs_neg y ∙ h.1)

pattern : (f : Format) (s : Bool) (m n : ℕ) (e d : ℤ) → m * up e * 2 ^ low f / down e ≡ n * up d * 2 ^ low f / down d → to_bits f (fin s m e) ≡ to_bits f (fin s n d)
unfolding to_bits
pattern f s m n e d h = ap (λ (z : ℕ). cond s (top f) 0 + (size z - prec f) * hid f + z / 2 ^ (size z - prec f)) h

-- two values that fit are equal if they have the same sign and the same magnitude in units of the smallest value
pub same_value : (f : Format) (s : Bool) (m n : ℕ) (e d : ℤ) → T (fits f (fin s m e)) → T (fits f (fin s n d)) → m * up e * 2 ^ low f / down e ≡ n * up d * 2 ^ low f / down d → fin s m e ≡ fin s n d
same_value f s m n e d p q h = sym (of_bits-to_bits f (fin s m e) p) ∙ ap (of_bits f) (pattern f s m n e d h) ∙ of_bits-to_bits f (fin s n d) q

-- zero rounds to zero
zero_fits : (f : Format) (s : Bool) → T (fits f (fin s 0 (pos 0)))
unfolding fits
zero_fits f s = tt

zero_value : (f : Format) (s : Bool) (c : ℕ) (x : Float) → 0 < c → T (fits f x) → HasValue x s 0 c → x ≡ fin s 0 (pos 0)
zero_value f s c nan C h v = absurd v
zero_value f s c (inf t) C h v = absurd v
zero_value f s c (fin t m e) C h v =
    same_value f t m 0 e (pos 0) h (zero_fits f t) (ap (λ (z : ℕ). z * 2 ^ low f / down e) (eq_of_mul-eq-mul_right c C (m * up e) 0 (v.1 ∙ zero-mul (down e) ∙ sym (zero-mul c))) ∙ flat (2 ^ low f) (down e))
    ∙ ap (λ (b : Bool). fin b 0 (pos 0)) v.0
  where
    flat : (l d : ℕ) → 0 * l / d ≡ 0 * 1 * l / 1
    flat l d = ap (λ (z : ℕ). z / d) (zero-mul l) ∙ zero-div d ∙ sym (zero-div 1) ∙ sym (ap (λ (z : ℕ). z / 1) (zero-mul l))

pub round_zero : (f : Format) (s : Bool) (c : ℕ) → 0 < c → round f s 0 c ≡ fin s 0 (pos 0)
round_zero f s c C =
    zero_value f s c (round f s 0 c) C (round-fits f s 0 c)
    (round_exact f s 0 c 0 0 C (pow_pos (prec f)) (pow_pos (low f + suc (emax f))) (zero-mul (2 ^ low f) ∙ sym (zero-mul c)))

zeros : (f : Format) (s : Bool) (a b c : ℕ) → 0 < c → ltb a b ≡ false → ltb b a ≡ false → a ≡ b → abs (sum f s a (not s) b c) ≡ pos_zero
unfolding sum with_sign
zeros f true a b c C h k e = simp (h, k) (ap abs (ap (λ (n : ℕ). round f false n c) (ap (λ (z : ℕ). z - b) e ∙ sub_self b) ∙ round_zero f false c C))
zeros f false a b c C h k e = simp h (ap abs (ap (λ (n : ℕ). round f false n c) (ap (λ (z : ℕ). z - b) e ∙ sub_self b) ∙ round_zero f false c C))

-- a sum with both signs changed: exact zeros are +0 either way
flip : (f : Format) (s t : Bool) (a b c : ℕ) → 0 < c → beq s t ≡ false → Tri a b → Alike (sum f (not s) a (not t) b c) (neg (sum f s a t b c))
unfolding sum
flip f true true a b c C p o = absurd (subst T p tt)
flip f false false a b c C p o = absurd (subst T p tt)
flip f true false a b c C p (less h k) = inl (simp (h, k) (round_neg f false (b - a) c))
flip f true false a b c C p (more h k) = inl (simp (h, k) (round_neg f true (a - b) c))
flip f true false a b c C p (even h k e) = inr (zeros f false a b c C h k e, abs_neg (sum f true a false b c) ∙ zeros f true a b c C h k e)
flip f false true a b c C p (less h k) = inl (simp (h, k) (round_neg f true (b - a) c))
flip f false true a b c C p (more h k) = inl (simp (h, k) (round_neg f false (a - b) c))
flip f false true a b c C p (even h k e) = inr (zeros f true a b c C h k e, abs_neg (sum f false a true b c) ∙ zeros f false a b c C h k e)

sum_flip : (f : Format) (s : Bool) (a : ℕ) (t : Bool) (b c : ℕ) → 0 < c → Alike (sum f (not s) a (not t) b c) (neg (sum f s a t b c))
unfolding sum
sum_flip f true a true b c C = inl (round_neg f true (a + b) c)
sum_flip f false a false b c C = inl (round_neg f false (a + b) c)
sum_flip f true a false b c C = flip f true false a b c C refl (tri a b)
sum_flip f false a true b c C = flip f false true a b c C refl (tri a b)

pub add_neg_neg : (f : Format) (x y : Float) → Alike (add f (neg x) (neg y)) (neg (add f x y))
unfolding add neg
add_neg_neg f nan y = inl refl
add_neg_neg f (inf s) nan = inl refl
add_neg_neg f (inf true) (inf true) = inl refl
add_neg_neg f (inf true) (inf false) = inl refl
add_neg_neg f (inf false) (inf true) = inl refl
add_neg_neg f (inf false) (inf false) = inl refl
add_neg_neg f (inf s) (fin t n d) = inl refl
add_neg_neg f (fin s m e) nan = inl refl
add_neg_neg f (fin s m e) (inf t) = inl refl
add_neg_neg f (fin s m e) (fin t n d) = sum_flip f s (m * up e * down d) t (n * up d * down e) (down e * down d) (mul-pos (down_pos e) (down_pos d))

pub sub_neg_neg : (f : Format) (x y : Float) → Alike (sub f (neg x) (neg y)) (neg (sub f x y))
unfolding sub
sub_neg_neg f x y = add_neg_neg f x (neg y)

-- ---- copysign, and comparison
pub copysign_neg : (x y : Float) → T (not (is_nan y)) → copysign x (neg y) ≡ neg (copysign x y)
unfolding is_nan neg negative with_sign
copysign_neg x nan n = absurd n
copysign_neg nan (inf t) n = refl
copysign_neg (inf s) (inf t) n = refl
copysign_neg (fin s m e) (inf t) n = refl
copysign_neg nan (fin t k d) n = refl
copysign_neg (inf s) (fin t k d) n = refl
copysign_neg (fin s m e) (fin t k d) n = refl

below_neg : (s : Bool) (a : ℕ) (t : Bool) (b : ℕ) → below (not t) b (not s) a ≡ below s a t b
below_neg true a true b = refl
below_neg true a false b = ap (ltb 0) (add_comm b a)
below_neg false a true b = refl
below_neg false a false b = refl

pub lt_neg : (x y : Float) → lt (neg y) (neg x) ≡ lt x y
unfolding lt neg
lt_neg nan nan = refl
lt_neg nan (inf t) = refl
lt_neg nan (fin t n d) = refl
lt_neg (inf s) nan = refl
lt_neg (inf true) (inf true) = refl
lt_neg (inf true) (inf false) = refl
lt_neg (inf false) (inf true) = refl
lt_neg (inf false) (inf false) = refl
lt_neg (inf true) (fin t n d) = refl
lt_neg (inf false) (fin t n d) = refl
lt_neg (fin s m e) nan = refl
lt_neg (fin s m e) (inf true) = refl
lt_neg (fin s m e) (inf false) = refl
lt_neg (fin s m e) (fin t n d) = below_neg s (m * up e * down d) t (n * up d * down e)

-- the same for `eq` and `le`
beq_neg : (s t : Bool) → beq (not t) (not s) ≡ beq s t
beq_neg true true = refl
beq_neg true false = refl
beq_neg false true = refl
beq_neg false false = refl

level_neg : (s : Bool) (a : ℕ) (t : Bool) (b : ℕ) → level (not t) b (not s) a ≡ level s a t b
level_neg s a t b = go (eqb a b) refl
  where
    go : (u : Bool) → eqb a b ≡ u → eqb b a && (beq (not t) (not s) || eqb b 0) ≡ u && (beq s t || eqb a 0)
    go true e =
        let h : a ≡ b = eqb-true a b e in
        ap₂ (λ (x y : Bool). x && y) (eq-eqb b a (sym h)) (ap₂ (λ (x y : Bool). x || y) (beq_neg s t) (ap (λ (z : ℕ). eqb z 0) (sym h)))
    go false e = ap (λ (x : Bool). x && (beq (not t) (not s) || eqb b 0)) (ne_eqb b a (λ h. eqb-false a b e (sym h)))

pub eq_neg : (x y : Float) → eq (neg y) (neg x) ≡ eq x y
unfolding eq neg
eq_neg nan nan = refl
eq_neg nan (inf t) = refl
eq_neg nan (fin t n d) = refl
eq_neg (inf s) nan = refl
eq_neg (inf s) (inf t) = beq_neg s t
eq_neg (inf s) (fin t n d) = refl
eq_neg (fin s m e) nan = refl
eq_neg (fin s m e) (inf t) = refl
eq_neg (fin s m e) (fin t n d) = level_neg s (m * up e * down d) t (n * up d * down e)

pub le_neg : (x y : Float) → le (neg y) (neg x) ≡ le x y
unfolding le
le_neg x y = ap₂ (λ (a b : Bool). a || b) (lt_neg x y) (eq_neg x y)

-- ---- the difference of two values that both change their sign
pub abs_sub_turned : (f : Format) (a b : Float) → abs (sub f (neg a) (neg b)) ≡ abs (sub f a b)
abs_sub_turned f a b = alike_abs (sub f (neg a) (neg b)) (neg (sub f a b)) (sub_neg_neg f a b) ∙ abs_neg (sub f a b)
