-- Lines, byte by byte, evaluated by the definitions.
use mathlib.Core.Path.{◌≡◌, refl}
use mathlib.Core.List.{[], ◌∷◌}
use lib.Ieee.{binary32, of_bits, to_bits}
use Rattle.game.specs.declared.Side.TheVariants.{Home, Away}
use Rattle.items.specs.declared.Item.TheVariants.{Excess, PlacedX, PlacedY, PlacedThird}
use Rattle.items.specs.declared.Who.TheVariants.{TheBall, OnePlayer}
use Rattle.text.specs.Decimal.{decimal_from}
use Rattle.item_lines.specs.Values.{significand_of, shift_of, millionths, sign_text, six_digits, decimal_text, amount_text, value_text}
use Rattle.item_lines.specs.ItemLines.{player_text, excess_text, placed_text, item_line}

-- "Away 3 is in excess in its goal area, rank 1"
rank : item_line (Excess Away 3 1) ≡ 65 ∷ 119 ∷ 97 ∷ 121 ∷ 32 ∷ 51 ∷ 32 ∷ 105 ∷ 115 ∷ 32 ∷ 105 ∷ 110 ∷ 32 ∷ 101 ∷ 120 ∷ 99 ∷ 101 ∷ 115 ∷ 115 ∷ 32 ∷ 105 ∷ 110 ∷ 32 ∷ 105 ∷ 116 ∷ 115 ∷ 32 ∷ 103 ∷ 111 ∷ 97 ∷ 108 ∷ 32 ∷ 97 ∷ 114 ∷ 101 ∷ 97 ∷ 44 ∷ 32 ∷ 114 ∷ 97 ∷ 110 ∷ 107 ∷ 32 ∷ 49 ∷ 10 ∷ []
unfolding decimal_from player_text excess_text item_line
rank = refl

-- "the ball is placed at x 7.000000, pattern 1088421888"
seven : item_line (PlacedX TheBall (of_bits binary32 0x40e0_0000)) ≡ 116 ∷ 104 ∷ 101 ∷ 32 ∷ 98 ∷ 97 ∷ 108 ∷ 108 ∷ 32 ∷ 105 ∷ 115 ∷ 32 ∷ 112 ∷ 108 ∷ 97 ∷ 99 ∷ 101 ∷ 100 ∷ 32 ∷ 97 ∷ 116 ∷ 32 ∷ 120 ∷ 32 ∷ 55 ∷ 46 ∷ 48 ∷ 48 ∷ 48 ∷ 48 ∷ 48 ∷ 48 ∷ 44 ∷ 32 ∷ 112 ∷ 97 ∷ 116 ∷ 116 ∷ 101 ∷ 114 ∷ 110 ∷ 32 ∷ 49 ∷ 48 ∷ 56 ∷ 56 ∷ 52 ∷ 50 ∷ 49 ∷ 56 ∷ 56 ∷ 56 ∷ 10 ∷ []
unfolding of_bits to_bits decimal_from significand_of shift_of millionths sign_text six_digits decimal_text amount_text value_text placed_text item_line
seven = refl

-- "Home 3 is placed at y -1.250000, pattern 3214934016"
minus : item_line (PlacedY (OnePlayer Home 3) (of_bits binary32 0xbfa0_0000)) ≡ 72 ∷ 111 ∷ 109 ∷ 101 ∷ 32 ∷ 51 ∷ 32 ∷ 105 ∷ 115 ∷ 32 ∷ 112 ∷ 108 ∷ 97 ∷ 99 ∷ 101 ∷ 100 ∷ 32 ∷ 97 ∷ 116 ∷ 32 ∷ 121 ∷ 32 ∷ 45 ∷ 49 ∷ 46 ∷ 50 ∷ 53 ∷ 48 ∷ 48 ∷ 48 ∷ 48 ∷ 44 ∷ 32 ∷ 112 ∷ 97 ∷ 116 ∷ 116 ∷ 101 ∷ 114 ∷ 110 ∷ 32 ∷ 51 ∷ 50 ∷ 49 ∷ 52 ∷ 57 ∷ 51 ∷ 52 ∷ 48 ∷ 49 ∷ 54 ∷ 10 ∷ []
unfolding of_bits to_bits decimal_from significand_of shift_of millionths sign_text six_digits decimal_text amount_text value_text player_text placed_text item_line
minus = refl

-- "Away 20 is placed with heading 0.100000, pattern 1036831949"
tenth : item_line (PlacedThird (OnePlayer Away 20) (of_bits binary32 0x3dcc_cccd)) ≡ 65 ∷ 119 ∷ 97 ∷ 121 ∷ 32 ∷ 50 ∷ 48 ∷ 32 ∷ 105 ∷ 115 ∷ 32 ∷ 112 ∷ 108 ∷ 97 ∷ 99 ∷ 101 ∷ 100 ∷ 32 ∷ 119 ∷ 105 ∷ 116 ∷ 104 ∷ 32 ∷ 104 ∷ 101 ∷ 97 ∷ 100 ∷ 105 ∷ 110 ∷ 103 ∷ 32 ∷ 48 ∷ 46 ∷ 49 ∷ 48 ∷ 48 ∷ 48 ∷ 48 ∷ 48 ∷ 44 ∷ 32 ∷ 112 ∷ 97 ∷ 116 ∷ 116 ∷ 101 ∷ 114 ∷ 110 ∷ 32 ∷ 49 ∷ 48 ∷ 51 ∷ 54 ∷ 56 ∷ 51 ∷ 49 ∷ 57 ∷ 52 ∷ 57 ∷ 10 ∷ []
unfolding of_bits to_bits decimal_from significand_of shift_of millionths sign_text six_digits decimal_text amount_text value_text player_text placed_text item_line
tenth = refl

-- "Home 1 is placed at x -0.007813, pattern 3154116608": -1/128, a half of a millionth away from zero
half : item_line (PlacedX (OnePlayer Home 1) (of_bits binary32 0xbc00_0000)) ≡ 72 ∷ 111 ∷ 109 ∷ 101 ∷ 32 ∷ 49 ∷ 32 ∷ 105 ∷ 115 ∷ 32 ∷ 112 ∷ 108 ∷ 97 ∷ 99 ∷ 101 ∷ 100 ∷ 32 ∷ 97 ∷ 116 ∷ 32 ∷ 120 ∷ 32 ∷ 45 ∷ 48 ∷ 46 ∷ 48 ∷ 48 ∷ 55 ∷ 56 ∷ 49 ∷ 51 ∷ 44 ∷ 32 ∷ 112 ∷ 97 ∷ 116 ∷ 116 ∷ 101 ∷ 114 ∷ 110 ∷ 32 ∷ 51 ∷ 49 ∷ 53 ∷ 52 ∷ 49 ∷ 49 ∷ 54 ∷ 54 ∷ 48 ∷ 56 ∷ 10 ∷ []
unfolding of_bits to_bits decimal_from significand_of shift_of millionths sign_text six_digits decimal_text amount_text value_text player_text placed_text item_line
half = refl

-- "the ball is placed at z 0.000000, pattern 1": the least subnormal number
least : item_line (PlacedThird TheBall (of_bits binary32 1)) ≡ 116 ∷ 104 ∷ 101 ∷ 32 ∷ 98 ∷ 97 ∷ 108 ∷ 108 ∷ 32 ∷ 105 ∷ 115 ∷ 32 ∷ 112 ∷ 108 ∷ 97 ∷ 99 ∷ 101 ∷ 100 ∷ 32 ∷ 97 ∷ 116 ∷ 32 ∷ 122 ∷ 32 ∷ 48 ∷ 46 ∷ 48 ∷ 48 ∷ 48 ∷ 48 ∷ 48 ∷ 48 ∷ 44 ∷ 32 ∷ 112 ∷ 97 ∷ 116 ∷ 116 ∷ 101 ∷ 114 ∷ 110 ∷ 32 ∷ 49 ∷ 10 ∷ []
unfolding of_bits to_bits decimal_from significand_of shift_of millionths sign_text six_digits decimal_text amount_text value_text placed_text item_line
least = refl

-- "the ball is placed at y of pattern 1266679808": 2 ^ 24
past : item_line (PlacedY TheBall (of_bits binary32 0x4b80_0000)) ≡ 116 ∷ 104 ∷ 101 ∷ 32 ∷ 98 ∷ 97 ∷ 108 ∷ 108 ∷ 32 ∷ 105 ∷ 115 ∷ 32 ∷ 112 ∷ 108 ∷ 97 ∷ 99 ∷ 101 ∷ 100 ∷ 32 ∷ 97 ∷ 116 ∷ 32 ∷ 121 ∷ 32 ∷ 111 ∷ 102 ∷ 32 ∷ 112 ∷ 97 ∷ 116 ∷ 116 ∷ 101 ∷ 114 ∷ 110 ∷ 32 ∷ 49 ∷ 50 ∷ 54 ∷ 54 ∷ 54 ∷ 55 ∷ 57 ∷ 56 ∷ 48 ∷ 56 ∷ 10 ∷ []
unfolding of_bits to_bits decimal_from significand_of shift_of millionths sign_text six_digits decimal_text amount_text value_text placed_text item_line
past = refl

-- "the ball is placed at x 16777215.000000, pattern 1266679807"
largest : item_line (PlacedX TheBall (of_bits binary32 0x4b7f_ffff)) ≡ 116 ∷ 104 ∷ 101 ∷ 32 ∷ 98 ∷ 97 ∷ 108 ∷ 108 ∷ 32 ∷ 105 ∷ 115 ∷ 32 ∷ 112 ∷ 108 ∷ 97 ∷ 99 ∷ 101 ∷ 100 ∷ 32 ∷ 97 ∷ 116 ∷ 32 ∷ 120 ∷ 32 ∷ 49 ∷ 54 ∷ 55 ∷ 55 ∷ 55 ∷ 50 ∷ 49 ∷ 53 ∷ 46 ∷ 48 ∷ 48 ∷ 48 ∷ 48 ∷ 48 ∷ 48 ∷ 44 ∷ 32 ∷ 112 ∷ 97 ∷ 116 ∷ 116 ∷ 101 ∷ 114 ∷ 110 ∷ 32 ∷ 49 ∷ 50 ∷ 54 ∷ 54 ∷ 54 ∷ 55 ∷ 57 ∷ 56 ∷ 48 ∷ 55 ∷ 10 ∷ []
unfolding of_bits to_bits decimal_from significand_of shift_of millionths sign_text six_digits decimal_text amount_text value_text placed_text item_line
largest = refl
