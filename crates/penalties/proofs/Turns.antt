-- Asking the players of a side in turn. Assumes nothing.
use Rattle.std.proofs.Common.{◌≡◌, refl, ap, ap₂, ◌∙◌, Bool, List, ℕ, ◌+◌, ◌≤◌}
use native.Mathlib.Nat.{le_antisymm}
use Rattle.lists.proofs.Fold.{fold_none, fold_turn}
use Rattle.game.specs.Players.{player_at, number_at}
use Rattle.game.specs.declared.FieldDimensions.{FieldDimensions}
use Rattle.game.specs.declared.Game.{Game}
use Rattle.game.specs.declared.PlayerList.{PlayerList}
use Rattle.game.specs.declared.Team.{Team}
use Rattle.remembered.specs.Remembered.{remembered_at}
use Rattle.remembered.specs.declared.Remembered.{Remembered}
use Rattle.penalties.specs.declared.Asked.{Asked}
use Rattle.penalties.specs.Penalties.{asked_player, verdict_in, is_listed, asked_at, kicking_before}
use Rattle.std.specs.Prelude.{Option}
use Rattle.game.specs.declared.Positioning.{Positioning}

module _ (g : Game) (f : FieldDimensions) (t : Team) (verdicts : List Positioning) (excess : PlayerList) (l : List Remembered) (grace : Bool) (k : Option ℕ) where
  -- before the first
  pub none_asked : k ≡ kicking_before g f t verdicts excess l grace k 0
  unfolding kicking_before
  none_asked = fold_none _ k

  -- asking the player at the place i
  pub next_asked : (i : ℕ) (asked : Asked) (in_excess : Bool) (now : Option ℕ) →
      asked ≡ asked_player g f (player_at t i) (remembered_at l i) (verdict_in verdicts i) in_excess grace (number_at i) now →
      in_excess ≡ is_listed excess (number_at i) →
      now ≡ kicking_before g f t verdicts excess l grace k i →
      asked ≡ asked_at g f t verdicts excess l grace i (kicking_before g f t verdicts excess l grace k i)
  next_asked i asked in_excess now e x n =
      e ∙ ap₂ (λ (x : Bool) (n : Option ℕ). asked_player g f (player_at t i) (remembered_at l i) (verdict_in verdicts i) x grace (number_at i) n) x n

  -- and the kicking player after it
  pub next_kicking : (i : ℕ) (asked : Asked) →
      asked ≡ asked_at g f t verdicts excess l grace i (kicking_before g f t verdicts excess l grace k i) →
      asked.kicking_player ≡ kicking_before g f t verdicts excess l grace k (i + 1)
  unfolding kicking_before
  next_kicking i asked e = fold_turn _ k (kicking_before g f t verdicts excess l grace k i) asked.kicking_player i refl (ap (λ (a : Asked). a.kicking_player) e)

  -- the kicking player after the last
  pub last_kicking : (i n : ℕ) (now : Option ℕ) → i ≤ n → n ≤ i → now ≡ kicking_before g f t verdicts excess l grace k i → now ≡ kicking_before g f t verdicts excess l grace k n
  last_kicking i n now a b e = e ∙ ap (kicking_before g f t verdicts excess l grace k) (le_antisymm a b)
