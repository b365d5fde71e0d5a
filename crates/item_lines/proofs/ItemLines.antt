-- The line of an item: a number of a place from its pieces, and the least and the greatest length. Assumes nothing.
use mathlib.Core.Path.{◌≡◌, refl, ap, ◌∙◌}
use mathlib.Core.List.{List, [], ◌∷◌, ◌++◌, append_assoc}
use Prim.Native.Nat.{ℕ, ◌+◌, ◌^◌, ◌≤◌, ◌<◌}
use native.Mathlib.Omega.{arith}
use lib.Ieee.{Float, binary32, to_bits}
use lib.ListN.{length, length-append}
use Rattle.game.specs.declared.BallJudgment.{BallJudgment}
use Rattle.game.specs.declared.BallJudgment.TheVariants.{NoJudgment, Goal, GoalKick, CornerKick, ThrowIn, EndOfPenaltyShot}
use Rattle.game.specs.declared.Positioning.{Positioning}
use Rattle.game.specs.declared.Positioning.TheVariants.{Legal, Illegal, IllegalUnlessKicker, InAvoidanceRegion}
use Rattle.game.specs.declared.Side.{Side}
use Rattle.game.specs.declared.Side.TheVariants.{Home, Away}
use Rattle.items.specs.declared.Item.{Item}
use Rattle.items.specs.declared.Item.TheVariants.{Verdict, Excess, Kicks, Leaves, HasMoved, Judged, PlacedX, PlacedY, PlacedThird}
use Rattle.items.specs.declared.Who.{Who}
use Rattle.items.specs.declared.Who.TheVariants.{TheBall, OnePlayer}
use Rattle.items.specs.Items.{who_number, row_of}
use Rattle.text.specs.Decimal.{decimal_of}
use Rattle.text.proofs.Decimal.{decimal_most, number_few}
use Rattle.item_lines.specs.Values.{value_text}
use Rattle.item_lines.specs.ItemLines.{side_name, player_text, who_text, verdict_text, excess_text, kicks_words, leaves_words, moved_words, judgment_text, placed_at_x, placed_at_y, third_words, placed_text, item_text, item_line}
use Rattle.item_lines.proofs.Lengths.{value_few}

-- ---- a number of a place from its pieces
pub placed_told : (who : Who) (words : List ℕ) (value : Float) (p : ℕ) → p ≡ to_bits binary32 value → (who_text who ++ words) ++ value_text p ≡ placed_text who words value
unfolding placed_text
placed_told who words value p e = append_assoc (who_text who) words (value_text p) ∙ ap (λ (q : ℕ). who_text who ++ (words ++ value_text q)) e

-- ---- at most so many bytes, where a player's text has at most m
side_long : (side : Side) → length (side_name side) ≡ 4
side_long Home = refl
side_long Away = refl

player_few : (m : ℕ) (side : Side) (n : ℕ) → length (decimal_of n) + 5 ≤ m → length (player_text side n) ≤ m
unfolding player_text
player_few m side n h = simp length-append (omega (arith, side_long side, h))

who_few : (m : ℕ) (who : Who) → 15 ≤ m → length (decimal_of (who_number who)) + 5 ≤ m → length (who_text who) ≤ m
who_few m TheBall l h = omega (arith, l)
who_few m (OnePlayer side number) l h = player_few m side number h

placed_few : (m : ℕ) (who : Who) (words : List ℕ) (value : Float) → 15 ≤ m → length (decimal_of (who_number who)) + 5 ≤ m → length words ≤ 24 → length (placed_text who words value) ≤ m + 82
unfolding placed_text
placed_few m who words value l h low = simp length-append (omega (arith, low, who_few m who l h, value_few (to_bits binary32 value)))

excess_few : (m : ℕ) (side : Side) (n rank : ℕ) → length (decimal_of n) + 5 ≤ m → length (excess_text side n rank) ≤ m + 57
unfolding excess_text
excess_few m side n rank h = simp length-append (omega (arith, player_few m side n h, decimal_most 20 rank))

verdict_few : (verdict : Positioning) → length (verdict_text verdict) ≤ 41
verdict_few Legal = omega arith
verdict_few Illegal = omega arith
verdict_few IllegalUnlessKicker = omega arith
verdict_few InAvoidanceRegion = omega arith

judgment_few : (judgment : BallJudgment) → length (judgment_text judgment) ≤ 23
judgment_few NoJudgment = omega arith
judgment_few (Goal side) = omega (arith, side_long side)
judgment_few (GoalKick side) = omega (arith, side_long side)
judgment_few (CornerKick side) = omega (arith, side_long side)
judgment_few (ThrowIn side) = omega (arith, side_long side)
judgment_few EndOfPenaltyShot = omega arith

third_few : (who : Who) → length (third_words who) ≤ 24
third_few TheBall = omega arith
third_few (OnePlayer side number) = omega arith

-- what is said of a player
said_few : (m : ℕ) (side : Side) (n : ℕ) (words : List ℕ) → length (decimal_of n) + 5 ≤ m → length words ≤ 41 → length (player_text side n ++ words) ≤ m + 41
said_few m side n words h low = omega (arith, low, player_few m side n h, length-append (player_text side n) words)

text_few : (m : ℕ) (item : Item) → 15 ≤ m → length (decimal_of (row_of item).number) + 5 ≤ m → length (item_text item) ≤ m + 84
text_few m (Verdict side number verdict) l h = omega (arith, said_few m side number (verdict_text verdict) h (verdict_few verdict))
text_few m (Excess side number rank) l h = omega (arith, excess_few m side number rank h)
text_few m (Kicks side number) l h = omega (arith, said_few m side number kicks_words h (omega arith))
text_few m (Leaves side number) l h = omega (arith, said_few m side number leaves_words h (omega arith))
text_few m (HasMoved side number) l h = omega (arith, said_few m side number moved_words h (omega arith))
text_few m (Judged judgment) l h = omega (arith, judgment_few judgment)
text_few m (PlacedX who x) l h = omega (arith, placed_few m who placed_at_x x l h (omega arith))
text_few m (PlacedY who y) l h = omega (arith, placed_few m who placed_at_y y l h (omega arith))
text_few m (PlacedThird who z) l h = omega (arith, placed_few m who (third_words who) z l h (third_few who))

-- ---- the line
line_few : (m : ℕ) (item : Item) → 15 ≤ m → length (decimal_of (row_of item).number) + 5 ≤ m → length (item_line item) ≤ m + 85
unfolding item_line
line_few m item l h = omega (arith, text_few m item l h, length-append (item_text item) (10 ∷ []))

-- at most 100 bytes, where the number of the player is one of 32 bits
pub item_line_few : (item : Item) → (row_of item).number < 2 ^ 32 → length (item_line item) ≤ 100
item_line_few item h = line_few 15 item (omega arith) (omega (arith, number_few (row_of item).number h))

-- no more than there is room for
pub item_line_fits : (item : Item) → length (item_line item) ≤ 128
item_line_fits item = omega (arith, line_few 25 item (omega arith) (omega (arith, decimal_most 20 (row_of item).number)))

-- never none
pub item_line_some : (item : Item) → 1 ≤ length (item_line item)
unfolding item_line
item_line_some item = omega (arith, length-append (item_text item) (10 ∷ []))
