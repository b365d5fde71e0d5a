-- What the loop over the patterns keeps, and its end. Assumes nothing.
use mathlib.Core.Path.{◌≡◌, sym, ap, ◌∙◌}
use mathlib.Core.List.{List, ◌++◌}
use Prim.Native.Nat.{ℕ, ◌+◌, ◌≤◌, ◌<◌, min}
use native.Mathlib.Nat.{le_antisymm}
use native.Mathlib.Omega.{arith}
use lib.Ieee.{Float, binary32, of_bits}
use lib.ListN.{length, drop, set, get_or}
use Rattle.lists.specs.Put.{fronted}
use Rattle.lists.specs.Table.{table, filled}
use Rattle.lists.proofs.Table.{turn, length_table, length_filled}
use Rattle.input.specs.Input.{places_in}

-- the float of the pattern at a place
abbrev pub float_at : List ℕ → ℕ → Float
float_at patterns k = of_bits binary32 (get_or patterns k 0)

-- after k turns, of the n that both have: so many places are filled
pub record Placed (patterns : List ℕ) (places : List Float) (n k : ℕ) (out : List Float) : Type 0 where
  pub both : n ≡ min (length patterns) (length places)
  pub within : k ≤ n
  pub front : out ≡ filled (float_at patterns) places k

module _ {patterns : List ℕ} {places : List Float} {n k : ℕ} {out : List Float} (so : Placed patterns places n k out) where
  pub length_so_far : length out ≡ length places
  length_so_far = ap length so.front ∙ length_filled (float_at patterns) places k (omega arith)

  pub placed_more : (v : Float) → k < n → v ≡ float_at patterns k → Placed patterns places n (k + 1) (set out k v)
  placed_more v h e = record { both = so.both; within = omega arith; front = turn (float_at patterns) places out k v (omega arith) so.front e }

  pub all_placed : n ≤ k → out ≡ places_in patterns places
  unfolding places_in fronted
  all_placed h =
      so.front ∙ ap (filled (float_at patterns) places) (le_antisymm so.within h ∙ so.both)
      ∙ ap (λ (i : ℕ). table (min (length patterns) (length places)) (float_at patterns) ++ drop i places) (sym (length_table (min (length patterns) (length places)) (float_at patterns)))
