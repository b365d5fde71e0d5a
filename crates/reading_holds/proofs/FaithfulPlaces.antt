-- Items of places whose lines say what they are. Assumes nothing.
use mathlib.Core.Path.{◌≡◌, refl, sym, ap, ap₂, subst, ◌∙◌}
use mathlib.Core.Bool.{true, ◌&&◌, ◌||◌}
use Prim.Native.Nat.{ℕ, ◌≤◌}
use native.Mathlib.Omega.{arith}
use lib.Ieee.{Float, binary32}
use Rattle.lists.proofs.Bools.{both, or_left}
use Rattle.floats.specs.Values.{Finite}
use Rattle.game.specs.Codes.{side_code}
use Rattle.game.specs.declared.Side.{Side}
use Rattle.game.specs.declared.Side.TheVariants.{Home, Away}
use Rattle.lines.specs.declared.Row.{Row}
use Rattle.sheet.specs.Rows.{row, placed_value}
use Rattle.items.specs.Items.{who_side, who_number, row_of, is_player, is_the_ball, is_placed, is_item, who_of, float_of, item_of}
use Rattle.items.specs.declared.Item.{Item}
use Rattle.items.specs.declared.Item.TheVariants.{PlacedX, PlacedY, PlacedThird}
use Rattle.items.specs.declared.Who.{Who}
use Rattle.items.specs.declared.Who.TheVariants.{TheBall, OnePlayer}
use Rattle.places_hold.specs.Claims.{unsigned_zero}
use Rattle.reading_holds.proofs.Orderly.{Numbered}
use Rattle.reading_holds.proofs.Values.{value_same, value_back, value_placed, value_small}
use Rattle.reading_holds.proofs.Faithful.{Low, Faithful, player_told, player_low}

-- the ball, or a player by its number
pub data WhoFits : Who → Type 0 where
  the_ball : WhoFits TheBall
  one_player : {side : Side} {n : ℕ} → Numbered n → WhoFits (OnePlayer side n)

who_back : {who : Who} → WhoFits who → who_of (who_side who) (who_number who) ≡ who
who_back the_ball = refl
who_back (one_player {side = Home} h) = refl
who_back (one_player {side = Away} h) = refl

who_told : (kind v : ℕ) {who : Who} → WhoFits who → (is_player (row kind (who_side who) (who_number who) v) || is_the_ball (row kind (who_side who) (who_number who) v)) ≡ true
who_told kind v the_ball = refl
who_told kind v (one_player {side} {n} h) = or_left (is_player (row kind (side_code side) n v)) _ (player_told kind v side n h)

who_low : (kind v : ℕ) {who : Who} → kind ≤ 9 → v ≤ 4294967295 → WhoFits who → Low (row kind (who_side who) (who_number who) v)
who_low kind v k w the_ball = record { kind = k; side = omega arith; number = omega arith; value = w }
who_low kind v k w (one_player {side} {n} h) = player_low kind v side n k w h

module _ (who : Who) (x : Float) (w : WhoFits who) (f : Finite binary32 x) where
  -- its line, of a kind
  abbrev placed_row : ℕ → Row
  placed_row kind = row kind (who_side who) (who_number who) (placed_value (unsigned_zero x))

  placed_faithful : (item : Who → Float → Item) (kind : ℕ) → kind ≤ 9 → row_of (item who (unsigned_zero x)) ≡ placed_row kind
      → item_of (placed_row kind) ≡ item (who_of (who_side who) (who_number who)) (float_of (placed_value (unsigned_zero x)))
      → is_item (placed_row kind) ≡ ((is_player (placed_row kind) || is_the_ball (placed_row kind)) && is_placed (placed_value (unsigned_zero x)))
      → Faithful (item who (unsigned_zero x))
  placed_faithful item kind low e back told =
      record {
        back = ap item_of e ∙ back ∙ ap₂ item (who_back w) (ap float_of (value_same x) ∙ value_back x f);
        item = ap is_item e ∙ told ∙ both (is_player (placed_row kind) || is_the_ball (placed_row kind)) (is_placed (placed_value (unsigned_zero x))) (who_told kind (placed_value (unsigned_zero x)) w) (ap is_placed (value_same x) ∙ value_placed x f);
        low = subst Low (sym e) (who_low kind (placed_value (unsigned_zero x)) low (omega (arith, value_same x, value_small x f)) w);
      }

  pub x_faithful : Faithful (PlacedX who (unsigned_zero x))
  unfolding item_of is_item
  x_faithful = placed_faithful PlacedX 7 (omega arith) refl refl refl

  pub y_faithful : Faithful (PlacedY who (unsigned_zero x))
  unfolding item_of is_item
  y_faithful = placed_faithful PlacedY 8 (omega arith) refl refl refl

  pub third_faithful : Faithful (PlacedThird who (unsigned_zero x))
  unfolding item_of is_item
  third_faithful = placed_faithful PlacedThird 9 (omega arith) refl refl refl
