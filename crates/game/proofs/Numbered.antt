-- A player by its number, from what player_at tells. Assumes nothing.
use mathlib.Core.Path.{◌≡◌, refl, sym, ap, ◌∙◌}
use Prim.Native.Nat.{ℕ, zero, suc, ◌-◌}
use native.Mathlib.Omega.{arith}
use lib.ListN.{length, get_or-eq_default}
use Rattle.game.specs.Players.{nobody, player_at, player_numbered}
use Rattle.game.specs.declared.Player.{Player}
use Rattle.game.specs.declared.Team.{Team}

pub none_numbered : (t : Team) (n : ℕ) (r : Player) → length t.players ≡ 20 → n ≡ 0 → r ≡ player_at t 20 → r ≡ player_numbered t n
none_numbered t n r l e q = q ∙ get_or-eq_default t.players nobody {n = 20} (omega arith) ∙ ap (player_numbered t) (sym e)

pub one_numbered : (t : Team) (n : ℕ) (r : Player) → (n ≡ 0 → ⊥) → r ≡ player_at t (n - 1) → r ≡ player_numbered t n
one_numbered t zero r h q = absurd (h refl)
one_numbered t (suc i) r h q = q ∙ ap (player_at t) (less i)
  where
    less : (i : ℕ) → suc i - 1 ≡ i
    less i = omega arith
