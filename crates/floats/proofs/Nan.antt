-- NaN by tests and by patterns. Assumes nothing.
use mathlib.Core.Path.{◌≡◌, refl, sym, ap, ◌∙◌, subst}
use mathlib.Core.Bool.{Bool, true, false, not, true≢false}
use Prim.Native.Nat.{ℕ, ◌*◌, ◌%◌, ◌≤◌, ◌<◌}
use lib.Dec.{T}
use borrow.Author.Tests.{le-ltb, lt-ltb}
use lib.Ieee.{Float, nan, inf, fin, Format, binary32, ne, eq, sub, add, neg, is_nan, to_bits, of_bits, nan_bits, ones, hid, top}
use lib.Ieee.Bits.{is_false, nan_bits_is, nan_bits_above}
use lib.Ieee.Compare.{differs_from_itself}

-- ---- what `x != x` and `x == x` say of x
pub nan_pattern : (x : Float) → ne x x ≡ true → to_bits binary32 x ≡ 0x7fc0_0000
unfolding to_bits
nan_pattern x e = ap (to_bits binary32) (differs_from_itself x (subst T (sym e) tt))

pub not_unequal : (x : Float) → ne x x ≡ false → T (not (is_nan x))
unfolding is_nan ne
not_unequal nan e = absurd (subst T e tt)
not_unequal (inf s) e = tt
not_unequal (fin s m d) e = tt

pub equals_itself : (x : Float) → eq x x ≡ true → T (not (is_nan x))
unfolding eq is_nan
equals_itself nan e = absurd (true≢false (sym e))
equals_itself (inf s) e = tt
equals_itself (fin s m d) e = tt

nan_is_nan : is_nan nan ≡ true
unfolding is_nan
nan_is_nan = refl

pub is_nan_is : (x : Float) → ne x x ≡ is_nan x
is_nan_is x = go (ne x x) refl
  where
    go : (b : Bool) → ne x x ≡ b → b ≡ is_nan x
    go true e = sym (ap is_nan (differs_from_itself x (subst T (sym e) tt)) ∙ nan_is_nan)
    go false e = sym (is_false (is_nan x) (not_unequal x e))

-- there is one NaN
pub nan_is : (x : Float) → is_nan x ≡ true → x ≡ nan
unfolding is_nan
nan_is nan e = refl
nan_is (inf s) e = absurd (subst T (sym e) tt)
nan_is (fin s m d) e = absurd (subst T (sym e) tt)

-- ---- patterns: up to the infinity's, the sign's bit aside, none is a NaN's, and each one above is
pub number_bits : (f : Format) (b : ℕ) → b % top f ≤ ones f * hid f → T (not (nan_bits f b))
number_bits f b h = subst (λ (t : Bool). T (not t)) (sym (nan_bits_above f b ∙ le-ltb (ones f * hid f) (b % top f) h)) tt

pub nan_bits_holds : (f : Format) (b : ℕ) → ones f * hid f < b % top f → of_bits f b ≡ nan
nan_bits_holds f b h = nan_is (of_bits f b) (sym (nan_bits_is f b) ∙ nan_bits_above f b ∙ lt-ltb (ones f * hid f) (b % top f) h)

-- ---- the difference of an infinity and itself
pub inf_less_inf : sub binary32 (of_bits binary32 0x7f80_0000) (of_bits binary32 0x7f80_0000) ≡ nan
unfolding sub add neg of_bits
inf_less_inf = refl
