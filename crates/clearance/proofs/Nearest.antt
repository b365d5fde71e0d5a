-- The least of many distances, found a part at a time. Assumes nothing.
use mathlib.Core.Path.{◌≡◌, refl, sym, ap, ap₂, ◌∙◌}
use mathlib.Core.Bool.{Bool, true, false, ◌||◌, true≢false}
use mathlib.Core.List.{List, [], ◌∷◌, ◌++◌, map, map-append}
use Prim.Native.Nat.{ℕ, zero, suc}
use lib.Dec.{T}
use lib.Ieee.{Float, inf, binary32, fits, le}
use Rattle.lists.proofs.Maps.{table_last}
use Rattle.lists.specs.Fold.{fold_to}
use Rattle.lists.specs.Table.{table}
use Rattle.lists.specs.Gather.{flat_to}
use Rattle.floats.specs.Leaves.{minimum_number, abs}
use Rattle.hypot.proofs.Laws.Signs.{hypot_comm}
use Rattle.hypot.proofs.Laws.Distance.{hypot_beyond}
use Rattle.game.specs.declared.Side.{Side}
use Rattle.game.specs.declared.Side.TheVariants.{Home, Away}
use Rattle.game.specs.declared.Team.{Team}
use Rattle.clearance.specs.Clearance.{Spot, team_spots, earlier_spots, left_out, occupied, distance_from, least_of, clearance, nearer}

-- the distances of two parts one after the other
pub least_append : (a : Float) (l m : List Float) → least_of a (l ++ m) ≡ least_of (least_of a l) m
least_append a [] m = refl
least_append a (d ∷ l) m = least_append (minimum_number a d) l m

module _ {A : Type 0} (d : A → Float) where
  pub least_parts : (a : Float) (l m : List A) → least_of a (map d (l ++ m)) ≡ least_of (least_of a (map d l)) (map d m)
  least_parts a l m = ap (least_of a) (map-append d l m) ∙ least_append a (map d l) (map d m)

  -- a loop over parts
  pub least_fold : (f : ℕ → List A) (s : Float) (n : ℕ) → fold_to n (λ i a. least_of a (map d (f i))) s ≡ least_of s (map d (flat_to n f))
  unfolding fold_to flat_to
  least_fold f s zero = refl
  least_fold f s (suc n) = ap (λ (a : Float). least_of a (map d (f n))) (least_fold f s n) ∙ sym (least_parts s (flat_to n f) (f n))

  -- a loop over the elements of a table
  pub least_table : (g : ℕ → A) (s : Float) (n : ℕ) → fold_to n (λ k a. minimum_number a (d (g k))) s ≡ least_of s (map d (table n g))
  unfolding fold_to
  least_table g s zero = refl
  least_table g s (suc n) = ap (λ (a : Float). minimum_number a (d (g n))) (least_table g s n) ∙ sym (ap (λ (l : List A). least_of s (map d l)) (table_last g n) ∙ least_parts s (table n g) (g n ∷ []))

-- ---- a spot that is as far as the least in one direction changes nothing
pub far_kept : (least dx dy : Float) → T (fits binary32 least) → T (fits binary32 dx) → T (fits binary32 dy) → (le least (abs dx) || le least (abs dy)) ≡ true → nearer least dx dy ≡ least
far_kept least dx dy n p q h = go (le least (abs dx)) (le least (abs dy)) refl refl h
  where
    go : (a b : Bool) → le least (abs dx) ≡ a → le least (abs dy) ≡ b → (a || b) ≡ true → nearer least dx dy ≡ least
    go true b e f k = hypot_beyond least dx dy n p q e
    go false true e f k = ap (minimum_number least) (hypot_comm dx dy) ∙ hypot_beyond least dy dx n q p f
    go false false e f k = absurd (true≢false (sym k))

-- ---- how far two lists go together
-- ---- the nearest of all spots: those of one team, of the other, then the earlier places
pub clearance_told : (home away : Team) (side : Side) (number : ℕ) (xs ys : List Float) (x y : Float) (m n : ℕ) (a b r : Float) → m ≡ left_out side number Home → n ≡ left_out side number Away
    → a ≡ least_of (inf false) (map (distance_from x y) (team_spots home m)) → b ≡ least_of a (map (distance_from x y) (team_spots away n)) → r ≡ least_of b (map (distance_from x y) (earlier_spots xs ys))
    → r ≡ clearance (occupied home away side number xs ys) x y
unfolding clearance occupied
clearance_told home away side number xs ys x y m n a b r em en ea eb er =
    er
    ∙ ap (λ (z : Float). least_of z (map d earlier)) (eb ∙ ap₂ (λ (z : Float) (k : ℕ). least_of z (map d (team_spots away k))) (ea ∙ ap (λ (k : ℕ). least_of (inf false) (map d (team_spots home k))) em) en)
    ∙ sym (least_parts d (inf false) (team_spots home (left_out side number Home)) (team_spots away (left_out side number Away) ++ earlier)
    ∙ least_parts d (least_of (inf false) (map d (team_spots home (left_out side number Home)))) (team_spots away (left_out side number Away)) earlier)
  where
    d : Spot → Float
    d = distance_from x y

    earlier : List Spot
    earlier = earlier_spots xs ys
