-- The magnitudes of the patterns of binary64, in units of 2 ^ -1074: `Patterns` where an exponent's field counts 2 ^ 52.
use Rattle.std.proofs.Common.{◌≡◌, ℕ, suc, ◌+◌, ◌-◌, ◌*◌, ◌/◌, ◌%◌, ◌^◌, ◌<◌, ◌≤◌, Bool, false, cond, eqb, sym, refl, subst, arith, lit<, ne_eqb}
use borrow.Author.Tests.{lt-leb}
use lib.Ieee.{nan, inf, binary64, odd, of_fields, of_bits}
use lib.Ieee.Exact.{HasValue, odd_sign}
use Rattle.hypot.proofs.Root.Patterns.{units_at, Led, units_is, units_at_holds, units_lt, units_le}

abbrev pub units64 : ℕ → ℕ
units64 b = units_at 4503599627370496 b

some : 0 < 4503599627370496
some = lit< tt

pub units64_at : (e r : ℕ) → Led 4503599627370496 e r → r ≤ 9007199254740992 → units64 (e * 4503599627370496 + r) ≡ r * 2 ^ e
units64_at e r d h = units_at_holds 4503599627370496 some e r d h

pub units64_lt : (b c : ℕ) → b < c → units64 b < units64 c
units64_lt b c h = units_lt 4503599627370496 some b c h

pub units64_le : (b c : ℕ) → b ≤ c → units64 b ≤ units64 c
units64_le b c h = units_le 4503599627370496 some b c h

-- ---- a normal pattern is read as its magnitude
-- a pattern with the field suc x and the digits t
fields_value : (x t : ℕ) → suc x < 2047 → HasValue (of_fields binary64 false (suc x) t) false ((4503599627370496 + t) * 2 ^ x) (2 ^ 1074)
unfolding of_fields
fields_value x t h =
    subst (λ (z : Bool). HasValue (cond z (cond (eqb t 0) (inf false) nan) (odd 53 false (4503599627370496 + t) x 1074)) false ((4503599627370496 + t) * 2 ^ x) (2 ^ 1074))
    (sym (ne_eqb (suc x) 2047 (omega arith)))
    (odd_sign 53 false (4503599627370496 + t) x 1074)

bits_value : (x t : ℕ) → suc x < 2047 → t < 4503599627370496 → HasValue (of_bits binary64 (suc x * 4503599627370496 + t)) false ((4503599627370496 + t) * 2 ^ x) (2 ^ 1074)
unfolding of_bits
bits_value x t h l =
    subst (λ (s : Bool). HasValue (of_fields binary64 s (b % 9223372036854775808 / 4503599627370496) (b % 4503599627370496)) false ((4503599627370496 + t) * 2 ^ x) (2 ^ 1074)) (sym (lt-leb 9223372036854775808 b (omega arith)))
    (subst (λ (y : ℕ). HasValue (of_fields binary64 false y (b % 4503599627370496)) false ((4503599627370496 + t) * 2 ^ x) (2 ^ 1074)) (field x t h l)
    (subst (λ (y : ℕ). HasValue (of_fields binary64 false (suc x) y) false ((4503599627370496 + t) * 2 ^ x) (2 ^ 1074)) (digits x t l)
    (fields_value x t h)))
  where
    b : ℕ
    b = suc x * 4503599627370496 + t

    field : (x t : ℕ) → suc x < 2047 → t < 4503599627370496 → suc x ≡ (suc x * 4503599627370496 + t) % 9223372036854775808 / 4503599627370496
    field x t h l = omega arith

    digits : (x t : ℕ) → t < 4503599627370496 → t ≡ (suc x * 4503599627370496 + t) % 4503599627370496
    digits x t l = omega arith

pub value64 : (b : ℕ) → 4503599627370496 ≤ b → b < 0x7ff0_0000_0000_0000 → HasValue (of_bits binary64 b) false (units64 b) (2 ^ 1074)
value64 b lo hi =
    subst (λ (z : ℕ). HasValue (of_bits binary64 b) false z (2 ^ 1074)) (sym (units_is 4503599627370496 some b x (4503599627370496 + t) refl (omega arith)))
    (subst (λ (z : ℕ). HasValue (of_bits binary64 z) false ((4503599627370496 + t) * 2 ^ x) (2 ^ 1074)) (joined b lo) (bits_value x t (omega arith) (omega arith)))
  where
    x : ℕ
    x = b / 4503599627370496 - 1

    t : ℕ
    t = b % 4503599627370496

    joined : (b : ℕ) → 4503599627370496 ≤ b → suc (b / 4503599627370496 - 1) * 4503599627370496 + b % 4503599627370496 ≡ b
    joined b h = omega arith
