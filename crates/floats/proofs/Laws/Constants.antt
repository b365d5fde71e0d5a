-- The constants are finite numbers, and what is used of their order and their size. Assumes nothing.
use mathlib.Core.Path.{◌≡◌, refl}
use mathlib.Core.Bool.{true, false, not}
use Prim.Native.Nat.{ℕ}
use lib.Dec.{T}
use lib.Ieee.{binary32, mul, add, sub, lt, fits, is_nan, of_bits}
use lib.Ieee.Bits.{of_bits-fits}
use lib.Ieee.Scale
use Rattle.floats.specs.Arithmetic.{◌+₃₂◌, ◌-₃₂◌, ◌*₃₂◌, zero32, sixty_fourth, half, one, two, four, sixty_four}
use Rattle.floats.specs.Values.{pos_zero, Number, Finite}
use Rattle.floats.proofs.Laws.Rounding.{finite_number}

-- a constant by its pattern
pub bits_number : (b : ℕ) → T (not (is_nan (of_bits binary32 b))) → Number binary32 (of_bits binary32 b)
bits_number b n = record { fit = of_bits-fits binary32 b; no_nan = n }

pub bits_finite : (b : ℕ) → T (lib.Ieee.Scale.finite (of_bits binary32 b)) → Finite binary32 (of_bits binary32 b)
bits_finite b t = record { fit = of_bits-fits binary32 b; finite = t }

pub zero_finite : Finite binary32 zero32
zero_finite = bits_finite 0 (unfold of_bits in tt)

pub pos_zero_finite : Finite binary32 pos_zero
unfolding fits
pos_zero_finite = record { fit = tt; finite = tt }

pub sixty_fourth_finite : Finite binary32 sixty_fourth
sixty_fourth_finite = bits_finite 0x3c80_0000 (unfold of_bits in tt)

pub half_finite : Finite binary32 half
half_finite = bits_finite 0x3f00_0000 (unfold of_bits in tt)

pub one_finite : Finite binary32 one
one_finite = bits_finite 0x3f80_0000 (unfold of_bits in tt)

pub two_finite : Finite binary32 two
two_finite = bits_finite 0x4000_0000 (unfold of_bits in tt)

pub four_finite : Finite binary32 four
four_finite = bits_finite 0x4080_0000 (unfold of_bits in tt)

pub sixty_four_finite : Finite binary32 sixty_four
sixty_four_finite = bits_finite 0x4280_0000 (unfold of_bits in tt)

pub zero_number : Number binary32 zero32
zero_number = finite_number binary32 zero32 zero_finite

pub one_number : Number binary32 one
one_number = finite_number binary32 one one_finite

pub sixty_fourth_number : Number binary32 sixty_fourth
sixty_fourth_number = finite_number binary32 sixty_fourth sixty_fourth_finite

pub sixty_four_number : Number binary32 sixty_four
sixty_four_number = finite_number binary32 sixty_four sixty_four_finite

-- ---- their order and what they come to
pub zero_below_one : lt zero32 one ≡ true
unfolding lt of_bits
zero_below_one = refl

pub half_not_below : lt half pos_zero ≡ false
unfolding lt of_bits
half_not_below = refl

pub half_of_four : four *₃₂ half ≡ two
unfolding mul of_bits
half_of_four = refl

pub two_and_zero : two +₃₂ zero32 ≡ two
unfolding add of_bits
two_and_zero = refl

pub two_less_one : two -₃₂ one ≡ one
unfolding sub of_bits
two_less_one = refl
