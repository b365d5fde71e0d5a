-- The operations of binary32, each rounded once, as operators, and constants. Definitions only.
use Rattle.std.specs.Prelude.{Float}
use Rattle.std.specs.Float.{binary32}
use Rattle.std.specs.Float.Ieee.{add, sub, mul, of_bits}

infixl 6 ◌+₃₂◌ ◌-₃₂◌
infixl 7 ◌*₃₂◌
-- the sum
abbrev pub ◌+₃₂◌ : Float → Float → Float
x +₃₂ y = add binary32 x y

-- the difference
abbrev pub ◌-₃₂◌ : Float → Float → Float
x -₃₂ y = sub binary32 x y

-- the product
abbrev pub ◌*₃₂◌ : Float → Float → Float
x *₃₂ y = mul binary32 x y

-- 0, 1/64, 1/2, 1, 2, 4, 64, and the f32 nearest to pi
abbrev pub zero32 : Float
zero32 = of_bits binary32 0

abbrev pub sixty_fourth : Float
sixty_fourth = of_bits binary32 0x3c80_0000

abbrev pub half : Float
half = of_bits binary32 0x3f00_0000

abbrev pub one : Float
one = of_bits binary32 0x3f80_0000

abbrev pub two : Float
two = of_bits binary32 0x4000_0000

abbrev pub four : Float
four = of_bits binary32 0x4080_0000

abbrev pub sixty_four : Float
sixty_four = of_bits binary32 0x4280_0000

abbrev pub pi : Float
pi = of_bits binary32 0x4049_0fdb
