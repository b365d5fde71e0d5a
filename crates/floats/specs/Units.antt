-- A finite magnitude of binary32 by its pattern, in units of 2 ^ -149: its significand times a power of 2. Definitions only.
use Rattle.std.specs.Prelude.{ℕ, ◌-◌, ◌*◌, ◌/◌, ◌^◌}

-- how many exponent fields stand before the significand: a field of 0 counts as 1
abbrev pub exponent_of : ℕ → ℕ
exponent_of b = b / 8388608 - 1

-- the significand
abbrev pub significand_of : ℕ → ℕ
significand_of b = b - exponent_of b * 8388608

-- the magnitude
unfoldable pub units_in : ℕ → ℕ
units_in b = significand_of b * 2 ^ exponent_of b
