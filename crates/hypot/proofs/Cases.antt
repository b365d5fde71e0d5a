-- Cases of the definition, by evaluation. The first two are document 01's; the others were worked out with whole numbers of any size in another language.
use Rattle.std.proofs.Common.{◌≡◌, ℕ, true, false, pos, refl}
use lib.Ieee.{nan, inf, fin, binary32, of_bits, to_bits}
use Rattle.hypot.specs.Hypot.{hypot}

-- the pattern of hypot, of two patterns
abbrev hypot_bits : ℕ → ℕ → ℕ
hypot_bits p q = to_bits binary32 (hypot (of_bits binary32 p) (of_bits binary32 q))

-- hypot(3, 4) = 5
three_four : hypot (fin false 3 (pos 0)) (fin false 1 (pos 2)) ≡ fin false 5 (pos 0)
unfolding hypot of_bits
three_four = refl

-- hypot(0, -0) = +0
zeros : hypot (fin false 0 (pos 0)) (fin true 0 (pos 0)) ≡ fin false 0 (pos 0)
unfolding hypot of_bits
zeros = refl

-- a tie goes down to the even pattern: the root of 40551 ^ 2 + 16779400 ^ 2 is 16779449
tie_down : hypot_bits 0x471e_6700 0x4b80_0444 ≡ 0x4b80_045c
unfolding hypot of_bits to_bits
tie_down = refl

-- a tie goes up to the even pattern: the root of 16776753 ^ 2 + 2232540 ^ 2 is 16924647
tie_up : hypot_bits 0x4b7f_fe31 0x4a08_4370 ≡ 0x4b81_1ff4
unfolding hypot of_bits to_bits
tie_up = refl

-- the smallest value twice: the root of 2 is nearer to 1
least : hypot_bits 0x0000_0001 0x8000_0001 ≡ 0x0000_0001
unfolding hypot of_bits to_bits
least = refl

-- subnormals with an exact root
subnormal : hypot_bits 0x0000_0003 0x0000_0004 ≡ 0x0000_0005
unfolding hypot of_bits to_bits
subnormal = refl

-- the largest subnormal value: the last partner that leaves it, and the first that carries it into the normal ones
subnormal_stays : hypot_bits 0x007f_ffff 0x0000_0b50 ≡ 0x007f_ffff
unfolding hypot of_bits to_bits
subnormal_stays = refl

subnormal_carries : hypot_bits 0x007f_ffff 0x0000_0b51 ≡ 0x0080_0000
unfolding hypot of_bits to_bits
subnormal_carries = refl

-- a carry into the next exponent: the value below 1
carry : hypot_bits 0x3f7f_ffff 0x39b5_04f3 ≡ 0x3f80_0000
unfolding hypot of_bits to_bits
carry = refl

-- the largest value: the last partner that leaves it, and the first that overflows
largest_stays : hypot_bits 0x7f7f_ffff 0x797f_ffff ≡ 0x7f7f_ffff
unfolding hypot of_bits to_bits
largest_stays = refl

largest_overflows : hypot_bits 0x7f7f_ffff 0x7980_0000 ≡ 0x7f80_0000
unfolding hypot of_bits to_bits
largest_overflows = refl

-- twice the largest value
overflow : hypot_bits 0x7f7f_ffff 0xff7f_ffff ≡ 0x7f80_0000
unfolding hypot of_bits to_bits
overflow = refl

-- 0.3125 and 9.650506e-5, close to a point halfway: the C library's hypotf gives 0x3ea0_0000
close_to_halfway : hypot_bits 0x3ea0_0000 0x38ca_62c2 ≡ 0x3ea0_0001
unfolding hypot of_bits to_bits
close_to_halfway = refl

-- an infinity beside a NaN
infinite : hypot (inf true) nan ≡ inf false
unfolding hypot
infinite = refl

-- a NaN beside a number
not_a_number : hypot nan (fin false 1 (pos 0)) ≡ nan
unfolding hypot
not_a_number = refl
