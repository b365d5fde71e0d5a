-- Every float of words is read from a pattern of 32 bits, so it fits binary32; and what holds of each pose that is read holds of every player's. Assumes nothing.
use mathlib.Core.Bool.{Bool, true, false, cond}
use mathlib.Core.List.{List}
use Prim.Native.Nat.{ℕ, zero, suc, ◌+◌, ◌*◌}
use lib.Dec.{T}
use lib.Ieee.{binary32, fits}
use lib.Ieee.Bits.{of_bits-fits}
use lib.ListN.{get_or}
use Rattle.lists.specs.Table.{table}
use Rattle.game.specs.Players.{nobody, player_at, player_numbered, team_of}
use Rattle.game.specs.declared.Player.{Player}
use Rattle.game.specs.declared.Side.{Side}
use Rattle.game.specs.declared.Side.TheVariants.{Home, Away}
use Rattle.words.specs.Words.{word_at, float_at, flag_at, pose_at, pose_if_at, player_of, team_in, situation_of}
use Rattle.std.specs.Prelude.{Option, None, Some}
use Rattle.game.specs.declared.PlayerPose.{PlayerPose}

pub float_fits : (ws : List ℕ) (i : ℕ) → T (fits binary32 (float_at ws i))
unfolding float_at
float_fits ws i = of_bits-fits binary32 (word_at ws i)

-- ---- a property that an absent player has, and each pose of the words
module _ (P : Option PlayerPose → Type 0) (absent : P None) (ws : List ℕ) (present : (i : ℕ) → P (Some (pose_at ws i))) where
  -- past the end of a table nobody is
  table_poses : (n : ℕ) (f : ℕ → Player) → ((k : ℕ) → P (f k).pose) → (i : ℕ) → P (get_or (table n f) i nobody).pose
  table_poses zero f h i = absent
  table_poses (suc n) f h zero = h 0
  table_poses (suc n) f h (suc i) = table_poses n (λ k. f (suc k)) (λ k. h (suc k)) i

  seen_pose : (i : ℕ) → P (pose_if_at ws i)
  unfolding pose_if_at
  seen_pose i = go (flag_at ws i)
    where
      go : (there : Bool) → P (cond there (Some (pose_at ws (i + 1))) None)
      go true = present (i + 1)
      go false = absent

  team_poses : (side i : ℕ) → P (player_at (team_in ws side) i).pose
  unfolding team_in player_of
  team_poses side i = table_poses 20 (λ k. player_of ws (20 * side + k)) (λ k. seen_pose _) i

  -- by the place in a team, and by the number
  pub side_poses : (side : Side) (i : ℕ) → P (player_at (team_of (situation_of ws) side) i).pose
  unfolding situation_of
  side_poses Home i = team_poses 0 i
  side_poses Away i = team_poses 1 i

  pub numbered_poses : (side : Side) (n : ℕ) → P (player_numbered (team_of (situation_of ws) side) n).pose
  numbered_poses side zero = absent
  numbered_poses side (suc i) = side_poses side i
