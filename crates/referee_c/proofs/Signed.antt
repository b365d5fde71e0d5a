-- Small numbers with a sign, as an i64 holds them. Assumes nothing.
use mathlib.Core.Path.{◌≡◌, ap, ◌∙◌}
use Prim.Native.Nat.{ℕ, zero, suc, ◌<◌}
use native.Mathlib.Omega.{arith}
use lib.IntN.{ℤ, pos, neg_ℤ, ◌-ℤ◌, +ℤ_idl}
use mir.Syntax.{w64}
use mir.Val.{SFits, to_z}
use mir.ValLaws.{to_z_pos}
use Rattle.referee_c.specs.Entries.{minus}

pub minus_fits : (n : ℕ) → n < 256 → SFits w64 (minus n)
minus_fits zero h = record { sfits = omega arith }
minus_fits (suc n) h = record { sfits = omega arith }

-- a number that is not negative
pub count_fits : (n : ℕ) → n < 9223372036854775808 → SFits w64 (pos n)
count_fits n h = record { sfits = h }

pub count_read : (n : ℕ) → n < 9223372036854775808 → to_z w64 n ≡ pos n
count_read n h = to_z_pos w64 n h

-- the code's 0 less a byte
pub byte_minus : (n : ℕ) → n < 256 → pos 0 -ℤ to_z w64 n ≡ minus n
byte_minus n h = let low : n < 9223372036854775808 = omega arith in ap (λ (z : ℤ). pos 0 -ℤ z) (count_read n low) ∙ +ℤ_idl (neg_ℤ (pos n))
