-- The magnitudes of the patterns of binary32: `Patterns` where an exponent's field counts 2 ^ 23.
use Rattle.std.proofs.Common.{◌≡◌, ℕ, suc, ◌+◌, ◌-◌, ◌*◌, ◌/◌, ◌^◌, ◌<◌, ◌≤◌, sym, refl, ap, ◌∙◌, ap₂, add-mul, arith, lit<}
use Rattle.hypot.specs.Hypot.{units_of, halfway}
use Rattle.hypot.proofs.Root.Patterns.{fields, significand, units_at, significand_lt}
use Rattle.hypot.proofs.Root.Patterns as All

-- the significand has its leading digit, unless e is 0
abbrev pub Led : ℕ → ℕ → Type 0
Led e r = All.Led 8388608 e r

-- a pattern's fields and significand
abbrev pub expo : ℕ → ℕ
expo b = fields 8388608 b

abbrev pub sig : ℕ → ℕ
sig b = significand 8388608 b

some : 0 < 8388608
some = lit< tt

pub units_is : (b e r : ℕ) → b / 8388608 - 1 ≡ e → b - e * 8388608 ≡ r → units_of b ≡ r * 2 ^ e
unfolding units_of units_at
units_is b e r f g = All.units_is 8388608 some b e r f g

pub units_at_holds : (e r : ℕ) → Led e r → r ≤ 16777216 → units_of (e * 8388608 + r) ≡ r * 2 ^ e
unfolding units_of units_at
units_at_holds e r d h = All.units_at_holds 8388608 some e r d h

pub units_of_holds : (b : ℕ) → units_of b ≡ sig b * 2 ^ expo b
unfolding units_of
units_of_holds b = refl

pub whole : (b : ℕ) → expo b * 8388608 + sig b ≡ b
whole b = All.whole 8388608 some b

pub sig_lt : (b : ℕ) → sig b < 16777216
sig_lt b = significand_lt 8388608 some b

pub led : (b : ℕ) → Led (expo b) (sig b)
led b = All.led 8388608 some b

pub units_next : (e r : ℕ) → Led e r → r < 16777216 → units_of (suc (e * 8388608 + r)) ≡ suc r * 2 ^ e
unfolding units_of units_at
units_next e r d h = All.units_next 8388608 some e r d h

pub units_lt : (b c : ℕ) → b < c → units_of b < units_of c
unfolding units_of units_at
units_lt b c h = All.units_lt 8388608 some b c h

pub units_le : (b c : ℕ) → b ≤ c → units_of b ≤ units_of c
unfolding units_of units_at
units_le b c h = All.units_le 8388608 some b c h

-- the point halfway to the next pattern
pub halfway_at : (e r : ℕ) → Led e r → r < 16777216 → halfway (e * 8388608 + r) ≡ (2 * r + 1) * 2 ^ e
unfolding halfway
halfway_at e r d h =
    ap₂ (λ (x y : ℕ). x + y) (units_at_holds e r d (omega arith)) (units_next e r d h)
    ∙ sym (add-mul r (suc r) (2 ^ e))
    ∙ ap (λ (x : ℕ). x * 2 ^ e) (odd r)
  where
    odd : (r : ℕ) → r + suc r ≡ 2 * r + 1
    odd r = omega arith
