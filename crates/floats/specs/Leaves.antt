-- The small functions on floats, over the values of `lib.Ieee`. There is one `nan`, which has no sign: where a sign or an order is asked of it,
-- it counts as not negative and above +inf, as the pattern that `to_bits` writes for it. Definitions only.
use Prim.Native.Nat.{ℕ, ◌+◌, ◌-◌, compare, Ordering}
use Rattle.std.specs.Prelude.{Bool, false, cond, pos, leb, Float}
use Rattle.std.specs.Float.{nan, inf, fin, binary32}
use Rattle.std.specs.Float.Ieee.{is_nan, lt, le, rem, add, to_bits, of_bits, of_int}

-- the sign's bit is on
unfoldable pub negative : Float → Bool
negative nan = false
negative (inf s) = s
negative (fin s m e) = s

-- x's magnitude with the sign t
unfoldable pub with_sign : Bool → Float → Float
with_sign t nan = nan
with_sign t (inf s) = inf t
with_sign t (fin s m e) = fin t m e

-- IEEE 754-2019, 5.5.1, abs
abbrev pub abs : Float → Float
abs x = with_sign false x

-- IEEE 754-2019, 5.5.1, copySign
abbrev pub copysign : Float → Float → Float
copysign x y = with_sign (negative y) x

-- IEEE 754-2019, 9.6, minimumNumber: of a number and a NaN the number, and -0 is below +0
unfoldable pub minimum_number : Float → Float → Float
minimum_number x y = cond (is_nan x) y (cond (is_nan y) x (cond (lt x y) x (cond (lt y x) y (cond (negative x) x y))))

-- IEEE 754-2019, 9.6, maximumNumber: of a number and a NaN the number, and -0 is below +0
unfoldable pub maximum_number : Float → Float → Float
maximum_number x y = cond (is_nan x) y (cond (is_nan y) x (cond (lt y x) x (cond (lt x y) y (cond (negative x) y x))))

-- lo where x is less, hi where x is greater, else x itself; and x itself too where a bound is a NaN or lo is above hi
unfoldable pub clamp : Float → Float → Float → Float
clamp x lo hi = cond (le lo hi) (cond (lt x lo) lo (cond (lt hi x) hi x)) x

-- the place of the pattern b in the total order: the negative patterns the other way round, below the others
unfoldable pub total_key : ℕ → ℕ
total_key b = cond (leb 0x8000_0000 b) (0xffff_ffff - b) (0x8000_0000 + b)

-- IEEE 754-2019, 5.10, totalOrder
abbrev pub total_order : Float → Float → Ordering
total_order x y = compare (total_key (to_bits binary32 x)) (total_key (to_bits binary32 y))

-- a remainder r of the division by y, moved up by y's magnitude where it is below zero
abbrev pub not_negative : Float → Float → Float
not_negative r y = cond (lt r (of_bits binary32 0)) (add binary32 r (abs y)) r

-- Rust's rem_euclid: the remainder of the division that rounds to minus infinity for a y above zero and to plus infinity for one below. A zero keeps the sign of x
unfoldable pub rem_euclid : Float → Float → Float
rem_euclid x y = not_negative (rem binary32 x y) y

-- the float of a count
abbrev pub of_count : ℕ → Float
of_count k = of_int binary32 (pos k)
