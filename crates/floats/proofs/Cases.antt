-- Cases of the definitions, by evaluation.
use mathlib.Core.Path.{◌≡◌, refl}
use mathlib.Core.Bool.{true, false}
use lib.IntN.{pos}
use lib.Ieee.{fin, is_nan, of_bits, rem, add, lt}
use Rattle.floats.specs.Leaves.{rem_euclid, minimum_number, maximum_number, negative, with_sign}

-- unlike zeros
min_of_zeros : minimum_number (fin false 0 (pos 0)) (fin true 0 (pos 0)) ≡ fin true 0 (pos 0)
unfolding minimum_number is_nan lt negative
min_of_zeros = refl

max_of_zeros : maximum_number (fin true 0 (pos 0)) (fin false 0 (pos 0)) ≡ fin false 0 (pos 0)
unfolding maximum_number is_nan lt negative
max_of_zeros = refl

-- -7 modulo 3 is 2, and 7 modulo -3 is 1
rem_euclid_negative : rem_euclid (fin true 7 (pos 0)) (fin false 3 (pos 0)) ≡ fin false 1 (pos 1)
unfolding rem_euclid rem add lt of_bits with_sign
rem_euclid_negative = refl

rem_euclid_positive : rem_euclid (fin false 7 (pos 0)) (fin true 3 (pos 0)) ≡ fin false 1 (pos 0)
unfolding rem_euclid rem add lt of_bits with_sign
rem_euclid_positive = refl

-- a zero keeps the sign of the dividend
rem_euclid_zero : rem_euclid (fin true 3 (pos 1)) (fin false 3 (pos 0)) ≡ fin true 0 (pos 0)
unfolding rem_euclid rem add lt of_bits with_sign
rem_euclid_zero = refl
