-- The spots that are taken change with the field, so a point that changes too keeps its clearance. x changes its sign where a is true, and y where b is. Assumes nothing.
use mathlib.Core.Path.{◌≡◌, refl, sym, ap, ap₂, ◌∙◌}
use mathlib.Core.Bool.{Bool, true, false, cond}
use mathlib.Core.List.{List, [], ◌∷◌, ◌++◌, map, map-append}
use Prim.Native.Nat.{ℕ, suc, min}
use lib.Dec.{eqb}
use lib.ListN.{length, get_or}
use lib.Ieee.{Float, nan, inf}
use Rattle.lists.specs.Table.{table}
use Rattle.lists.proofs.Gather.{flat_same}
use Rattle.lists.proofs.Lengths.{length_map}
use Rattle.lists.proofs.Maps.{flat_map, table_map}
use Rattle.lists.proofs.Table.{table_same}
use Rattle.game.specs.Players.{player_at}
use Rattle.game.specs.declared.Player.{Player}
use Rattle.game.specs.declared.Side.{Side}
use Rattle.game.specs.declared.Side.TheVariants.{Home, Away}
use Rattle.game.specs.declared.Team.{Team}
use Rattle.geometry.specs.Turned.{signed, changed_maybe_pose, changed_team}
use Rattle.geometry.proofs.Turned.{distance_changed, player_at_changed, place_at_changed}
use Rattle.clearance.specs.Clearance.{Spot, spot_of, spot_unless, spots_at, team_spots, earlier_spots, left_out, occupied, distance_from, least_of, clearance}
use Rattle.std.specs.Prelude.{Option, None, Some}
use Rattle.game.specs.declared.PlayerPose.{PlayerPose}

-- a spot after the change
abbrev pub changed_spot : Bool → Bool → Spot → Spot
changed_spot a b s = record { x = signed a s.x; y = signed b s.y }

module _ (a b : Bool) where
  -- ---- who stands where
  -- the spot of a player that is present
  spot_changed : (p : Option PlayerPose) → spot_of (changed_maybe_pose a b p) ≡ map (changed_spot a b) (spot_of p)
  spot_changed None = refl
  spot_changed (Some p) = refl

  -- the spots of a team's players
  spots_at_changed : (t : Team) (skip i : ℕ) → spots_at (changed_team a b t) skip i ≡ map (changed_spot a b) (spots_at t skip i)
  unfolding spot_unless
  spots_at_changed t skip i = ap (λ (q : Player). cond (eqb (suc i) skip) [] (spot_of q.pose)) (player_at_changed a b t i) ∙ go (eqb (suc i) skip)
    where
      go : (e : Bool) → cond e [] (spot_of (changed_maybe_pose a b (player_at t i).pose)) ≡ map (changed_spot a b) (cond e [] (spot_of (player_at t i).pose))
      go true = refl
      go false = spot_changed (player_at t i).pose

  team_spots_changed : (t : Team) (skip : ℕ) → team_spots (changed_team a b t) skip ≡ map (changed_spot a b) (team_spots t skip)
  team_spots_changed t skip =
      flat_same 20 (spots_at (changed_team a b t) skip) (λ i. map (changed_spot a b) (spots_at t skip i)) (λ i h. spots_at_changed t skip i)
      ∙ flat_map (changed_spot a b) 20 (spots_at t skip)

  -- the earlier places of the batch
  earlier_changed : (xs ys : List Float) → earlier_spots (map (signed a) xs) (map (signed b) ys) ≡ map (changed_spot a b) (earlier_spots xs ys)
  earlier_changed xs ys =
      ap₂ (λ (m n : ℕ). table (min m n) after) (length_map (signed a) xs) (length_map (signed b) ys)
      ∙ table_same (min (length xs) (length ys)) after (λ k. changed_spot a b (before k)) (λ k h. ap₂ (λ (u v : Float). record { x = u; y = v }) (place_at_changed a xs k) (place_at_changed b ys k))
      ∙ table_map (changed_spot a b) (min (length xs) (length ys)) before
    where
      before : ℕ → Spot
      before k = record { x = get_or xs k nan; y = get_or ys k nan }

      after : ℕ → Spot
      after k = record { x = get_or (map (signed a) xs) k nan; y = get_or (map (signed b) ys) k nan }

  -- the spots that are taken
  pub occupied_changed : (home away : Team) (side : Side) (number : ℕ) (xs ys : List Float) → occupied (changed_team a b home) (changed_team a b away) side number (map (signed a) xs) (map (signed b) ys) ≡ map (changed_spot a b) (occupied home away side number xs ys)
  unfolding occupied
  occupied_changed home away side number xs ys =
      ap₂ (λ (l m : List Spot). l ++ m) (team_spots_changed home h) (ap₂ (λ (l m : List Spot). l ++ m) (team_spots_changed away w) (earlier_changed xs ys))
      ∙ ap (λ (l : List Spot). map (changed_spot a b) (team_spots home h) ++ l) (sym (map-append (changed_spot a b) (team_spots away w) (earlier_spots xs ys)))
      ∙ sym (map-append (changed_spot a b) (team_spots home h) (team_spots away w ++ earlier_spots xs ys))
    where
      h : ℕ
      h = left_out side number Home

      w : ℕ
      w = left_out side number Away

  -- ---- how much space there is
  -- the distances of the spots
  distances_changed : (x y : Float) (spots : List Spot) → map (distance_from (signed a x) (signed b y)) (map (changed_spot a b) spots) ≡ map (distance_from x y) spots
  distances_changed x y [] = refl
  distances_changed x y (s ∷ spots) = ap₂ (λ (d : Float) (l : List Float). d ∷ l) (distance_changed a b s.x s.y x y) (distances_changed x y spots)

  -- the clearance of a point
  pub clearance_changed : (spots : List Spot) (x y : Float) → clearance (map (changed_spot a b) spots) (signed a x) (signed b y) ≡ clearance spots x y
  unfolding clearance
  clearance_changed spots x y = ap (least_of (inf false)) (distances_changed x y spots)
