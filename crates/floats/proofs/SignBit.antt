-- The sign's bit of a pattern.
use mathlib.Core.Path.{◌≡◌, refl, sym, ap, ◌∙◌, subst}
use mathlib.Core.Bool.{Bool, true, false, not, cond}
use Prim.Native.Nat.{ℕ, zero, suc, ◌+◌, ◌-◌, ◌*◌, ◌/◌, ◌%◌, ◌^◌, ◌<◌}
use native.Mathlib.Nat.{add_assoc}
use native.Mathlib.Omega.{arith}
use lib.IntN.{ℤ}
use lib.Dec.{T, leb}
use borrow.Author.Tests.{le-leb, lt-leb}
use lib.Ieee.{Float, nan, inf, fin, binary32, up, down, size, to_bits, of_bits, fits, is_nan, nan_bits, neg}
use lib.Ieee.Bits.{of_bits-to_bits, to_bits-lt, nan_bits_is}
use Rattle.floats.specs.Leaves.{negative, with_sign}

-- the pattern of m * 2 ^ e with no sign
abbrev bare : ℕ → ℤ → ℕ
bare m e = let n = m * up e * 2 ^ 149 / down e in (size n - 24) * 8388608 + n / 2 ^ (size n - 24)

bits_fin : (s : Bool) (m : ℕ) (e : ℤ) → to_bits binary32 (fin s m e) ≡ cond s 2147483648 0 + bare m e
unfolding to_bits
bits_fin s m e = let n = m * up e * 2 ^ 149 / down e in add_assoc (cond s 2147483648 0) ((size n - 24) * 8388608) (n / 2 ^ (size n - 24))

-- a value fits whatever its sign
fits_sign : (t : Bool) (x : Float) → T (fits binary32 x) → T (fits binary32 (with_sign t x))
unfolding fits with_sign
fits_sign t nan h = tt
fits_sign t (inf s) h = tt
fits_sign t (fin s zero e) h = h
fits_sign t (fin s (suc m) e) h = h

bare_lt : (s : Bool) (m : ℕ) (e : ℤ) → T (fits binary32 (fin s m e)) → bare m e < 2147483648
unfolding with_sign
bare_lt s m e h = under (bare m e) (to_bits binary32 (fin true m e)) (bits_fin true m e) (to_bits-lt binary32 (fin true m e) (fits_sign true (fin s m e) h))
  where
    under : (b c : ℕ) → c ≡ 2147483648 + b → c < 4294967296 → b < 2147483648
    under b c e h = omega arith

nan_bit : leb 2147483648 (to_bits binary32 nan) ≡ false
unfolding to_bits
nan_bit = refl

inf_bit : (s : Bool) → leb 2147483648 (to_bits binary32 (inf s)) ≡ s
unfolding to_bits
inf_bit true = refl
inf_bit false = refl

-- the sign's bit
pub sign_bit : (x : Float) → T (fits binary32 x) → leb 2147483648 (to_bits binary32 x) ≡ negative x
unfolding negative
sign_bit nan h = nan_bit
sign_bit (inf s) h = inf_bit s
sign_bit (fin true m e) h = le-leb 2147483648 (to_bits binary32 (fin true m e)) (omega (arith, bits_fin true m e))
sign_bit (fin false m e) h = lt-leb 2147483648 (to_bits binary32 (fin false m e)) (omega (arith, bits_fin false m e, bare_lt false m e h))

at_inf : (s : Bool) → to_bits binary32 (inf s) % 2147483648 ≡ to_bits binary32 (inf false)
unfolding to_bits
at_inf true = refl
at_inf false = refl

-- the pattern without it
sign_off : (x : Float) → T (fits binary32 x) → T (not (is_nan x)) → to_bits binary32 x % 2147483648 ≡ to_bits binary32 (with_sign false x)
unfolding with_sign is_nan
sign_off nan h n = absurd n
sign_off (inf s) h n = at_inf s
sign_off (fin true m e) h n = omega (arith, bits_fin true m e, bits_fin false m e, bare_lt true m e h)
sign_off (fin false m e) h n = omega (arith, bits_fin false m e, bare_lt false m e h)

pub abs_bits : (x : Float) → T (fits binary32 x) → T (not (is_nan x)) → of_bits binary32 (to_bits binary32 x % 2147483648) ≡ with_sign false x
abs_bits x h n = ap (of_bits binary32) (sign_off x h n) ∙ of_bits-to_bits binary32 (with_sign false x) (fits_sign false x h)

keeps_number : (t : Bool) (x : Float) → T (not (is_nan x)) → T (not (is_nan (with_sign t x)))
unfolding with_sign is_nan
keeps_number t nan n = n
keeps_number t (inf s) n = n
keeps_number t (fin s m e) n = n

pub abs_no_nan : (x : Float) → T (fits binary32 x) → T (not (is_nan x)) → T (not (nan_bits binary32 (to_bits binary32 x % 2147483648)))
abs_no_nan x h n = subst (λ (b : Bool). T (not b)) (sym (nan_bits_is binary32 (to_bits binary32 x % 2147483648) ∙ ap is_nan (abs_bits x h n))) (keeps_number false x n)

pub abs_nan : (x : Float) → x ≡ nan → x ≡ with_sign false x
unfolding with_sign
abs_nan x e = e ∙ sym (ap (with_sign false) e)

pub neg_abs : (x : Float) → neg (with_sign false x) ≡ with_sign true x
unfolding with_sign neg
neg_abs nan = refl
neg_abs (inf s) = refl
neg_abs (fin s m e) = refl
