-- The theorems about the candidates: there is always one, they end, and they are few. Assumes nothing.
use mathlib.Core.Path.{◌≡◌, refl, sym, ap, ◌∙◌}
use mathlib.Core.Bool.{Bool, true, false, cond}
use mathlib.Core.List.{List, [], ◌∷◌}
use Prim.Native.Nat.{ℕ, suc, ◌≤◌, ◌<◌, zero-le, suc-le-suc}
use native.Mathlib.Nat.{le_refl, le_trans, le_of_eq}
use native.Mathlib.Omega.{arith}
use lib.ListN.{length}
use lib.Ieee.{Float, nan, inf, fin, binary32, neg, add, sub, mul, lt, le, of_int}
use Rattle.lists.specs.Gather.{flat_to}
use Rattle.floats.specs.Leaves.{clamp}
use Rattle.floats.specs.Values.{Finite}
use Rattle.floats.specs.Arithmetic.{zero32}
use Rattle.spacing.specs.Spacing.{down_by, up_by, places_at}
use Rattle.floats.proofs.Laws.Within.{finite_within}
use Rattle.spacing.proofs.Directions.{down_out, up_out}
use Rattle.spacing.proofs.Places.{break_drops_nothing, all_by_8192, few_places}
use Rattle.tries.specs.Tries.{crossed, middle, candidates_to, candidates_of, unfit, walks}
use Rattle.tries.proofs.CandidatesList.{Held, Walkable, walkable, walks_walkable, Kind, only_middle, only_start, walk, kind, list_middle, list_by, list_walk}

-- there is always one
pub some_candidate : (start min max step : Float) → candidates_of start min max step ≡ [] → ⊥
unfolding candidates_to
some_candidate start min max step e = some (crossed min max) (ap length e)
  where
    some : (b : Bool) → length (cond b (middle min max ∷ []) (clamp start min max ∷ cond (le step zero32) [] (flat_to 8192 (places_at (clamp start min max) min max step)))) ≡ 0 → ⊥
    some true e = omega arith
    some false e = omega arith

-- a place one infinite step away is out
down_endless : (x v : Float) → Finite binary32 x → Finite binary32 v → lt (down_by x (inf false) 1) v ≡ true
unfolding sub add neg mul of_int lt
down_endless nan v p q = absurd p.finite
down_endless (inf s) v p q = absurd p.finite
down_endless (fin s m e) nan p q = absurd q.finite
down_endless (fin s m e) (inf t) p q = absurd q.finite
down_endless (fin s m e) (fin t n d) p q = refl

up_endless : (x v : Float) → Finite binary32 x → Finite binary32 v → lt v (up_by x (inf false) 1) ≡ true
unfolding add mul of_int lt
up_endless nan v p q = absurd p.finite
up_endless (inf s) v p q = absurd p.finite
up_endless (fin s m e) nan p q = absurd q.finite
up_endless (fin s m e) (inf t) p q = absurd q.finite
up_endless (fin s m e) (fin t n d) p q = refl

module _ (start min max step : Float) (f : Held start min max step) where
  -- ---- the candidates end
  -- lists whose walks agree
  same_list : (k n : ℕ) → unfit start min max step ≡ false → (Walkable start min max step → flat_to n (places_at (clamp start min max) min max step) ≡ flat_to k (places_at (clamp start min max) min max step))
      → candidates_to n start min max step ≡ candidates_to k start min max step
  same_list k n u e = go (kind start min max step f u)
    where
      go : Kind start min max step f → candidates_to n start min max step ≡ candidates_to k start min max step
      go (only_middle c) = list_middle start min max step f n c ∙ sym (list_middle start min max step f k c)
      go (only_start c z) = list_by start min max step f n true c z ∙ sym (list_by start min max step f k true c z)
      go (walk w) = list_walk start min max step f n w ∙ ap (λ (t : List Float). clamp start min max ∷ t) (e w) ∙ sym (list_walk start min max step f k w)

  -- after the Rust's `break` nothing would be added
  pub break_is_the_end : (k n : ℕ) → unfit start min max step ≡ false → k ≤ n → n < 16777216 → lt (down_by (clamp start min max) step (suc k)) min ≡ true → lt max (up_by (clamp start min max) step (suc k)) ≡ true
      → candidates_to n start min max step ≡ candidates_to k start min max step
  break_is_the_end k n u l h a b = same_list k n u (λ w. break_drops_nothing (clamp start min max) step min max w.first w.low w.high w.stride k n l h a b)

  -- no k from 8193 on adds one
  pub candidates_end : (n : ℕ) → unfit start min max step ≡ false → 8192 ≤ n → n < 16777216 → candidates_to n start min max step ≡ candidates_of start min max step
  candidates_end n u l h = same_list 8192 n u (λ w. all_by_8192 (clamp start min max) step min max w.first w.low w.high w.stride n l h)

  -- the Rust's loop comes to its `break`: at 8193 both are out
  pub break_comes : walks start min max step ≡ true → (lt (down_by (clamp start min max) step 8193) min ≡ true) × (lt max (up_by (clamp start min max) step 8193) ≡ true)
  break_comes e =
      let w = walks_walkable start min max step f e in
      (down_out (clamp start min max) step min 8193 w.first w.low w.stride (le_refl 8193) (omega arith), up_out (clamp start min max) step max 8193 w.first w.high w.stride (le_refl 8193) (omega arith))

  -- a step that is not above zero gives the clamped start alone
  pub still_step : crossed min max ≡ false → le step zero32 ≡ true → candidates_of start min max step ≡ clamp start min max ∷ []
  still_step c z = list_by start min max step f 8192 true c z

  -- an infinite step: at k = 1 both are out
  pub endless_step : crossed min max ≡ false → unfit start min max step ≡ false → step ≡ inf false → candidates_of start min max step ≡ clamp start min max ∷ []
  unfolding flat_to
  endless_step c u e = go (le step zero32) refl
    where
      go : (b : Bool) → le step zero32 ≡ b → candidates_of start min max step ≡ clamp start min max ∷ []
      go true z = still_step c z
      go false z =
          let w = walkable start min max step f c u z in
          let first = finite_within (clamp start min max) w.first in
          break_is_the_end 0 8192 u (omega arith) (omega arith)
          (ap (λ (v : Float). lt (down_by (clamp start min max) v 1) min) e ∙ down_endless (clamp start min max) min first (finite_within min w.low))
          (ap (λ (v : Float). lt max (up_by (clamp start min max) v 1)) e ∙ up_endless (clamp start min max) max first (finite_within max w.high))
          ∙ list_walk start min max step f 0 w

  -- they are few
  pub few_candidates : unfit start min max step ≡ false → length (candidates_of start min max step) ≤ 8193
  few_candidates u = go (kind start min max step f u)
    where
      go : Kind start min max step f → length (candidates_of start min max step) ≤ 8193
      go (only_middle c) = le_trans (le_of_eq (ap length (list_middle start min max step f 8192 c))) (suc-le-suc zero-le)
      go (only_start c z) = le_trans (le_of_eq (ap length (list_by start min max step f 8192 true c z))) (suc-le-suc zero-le)
      go (walk w) =
          le_trans (le_of_eq (ap length (list_walk start min max step f 8192 w))) (suc-le-suc (few_places (clamp start min max) step min max w.first w.low w.high w.stride 8192 (omega arith)))
