-- The kicking player that Set chooses is that of a decision, by its number. Assumes nothing.
use mathlib.Core.Path.{◌≡◌, refl, sym, ap, ap₂, ◌∙◌}
use mathlib.Core.Bool.{true, true≢false}
use mathlib.Core.List.{List}
use Prim.Native.Nat.{ℕ}
use Rattle.std.specs.Prelude.{Option, None, Some, is_some, option_map}
use Rattle.game.specs.declared.KickingPlayer.{KickingPlayer}
use Rattle.game.specs.declared.Margins.{Margins}
use Rattle.game.specs.declared.Side.{Side}
use Rattle.game.specs.declared.Side.TheVariants.{Home, Away}
use Rattle.game.specs.declared.Situation.{Situation}
use Rattle.decision.specs.Decision.{kicker_numbered, kicker_if_any, kicking_player, side_margins}
use Rattle.frames.specs.Frames.{AreMargins, kicker_in_set}

abbrev number : KickingPlayer → ℕ
number p = p.number

numbered : (side : Side) (found : Option ℕ) → option_map number (kicker_numbered side found) ≡ found
numbered side None = refl
numbered side (Some n) = refl

module _ (s : Situation) (k : Option ℕ) where
  kicker : Option Side → List (Option Margins) → List (Option Margins) → Option ℕ
  kicker kicking home away = option_map number (kicker_if_any kicking s.game s.home s.away s.field home away)

  of_kicking : (kicking : Option Side) → is_some kicking ≡ true → kicker kicking (side_margins s Home) (side_margins s Away) ≡ kicker_in_set kicking s k
  unfolding kicker
  of_kicking None e = absurd (true≢false (sym e))
  of_kicking (Some Home) e = numbered Home _
  of_kicking (Some Away) e = numbered Away _

  pub chosen_told : (home away : List (Option Margins)) (chosen : Option KickingPlayer) → AreMargins s home away → is_some s.game.kicking_side ≡ true
      → chosen ≡ kicking_player s.game s.home s.away s.field home away → option_map number chosen ≡ kicker_in_set s.game.kicking_side s k
  unfolding kicker kicking_player
  chosen_told home away chosen margins e ec = ap (option_map number) ec ∙ ap₂ (kicker s.game.kicking_side) margins.0 margins.1 ∙ of_kicking s.game.kicking_side e
