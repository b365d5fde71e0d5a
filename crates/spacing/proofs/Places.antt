-- The places as a list, in the Rust's order: after the start, for k = 1, 2, .. the lower one and the upper one, each where it is within bounds.
-- The list stops growing where both are out, so a loop may break there, and it never has more than 8192 members. Assumes nothing.
use mathlib.Core.Path.{◌≡◌, refl, sym, ap, ap₂, ◌∙◌}
use mathlib.Core.Bool.{Bool, true, false}
use mathlib.Core.List.{[], ◌++◌}
use Prim.Native.Nat.{ℕ, zero, suc, ◌+◌, ◌≤◌, ◌<◌, suc-le-suc}
use native.Mathlib.Nat.{le_refl, le_trans, le_of_eq, zero-lt-suc}
use native.Mathlib.Omega.{arith}
use borrow.Author.Tests.{not-true}
use lib.ListN.{length, length-append}
use lib.Ieee.{Float, binary32, lt, le}
use Rattle.lists.specs.Counting.{count_to}
use Rattle.lists.specs.Gather.{flat_to, only_if}
use Rattle.lists.specs.Put.{count_if}
use Rattle.lists.proofs.Gather.{flat_quiet}
use Rattle.floats.specs.Values.{Number, Within}
use Rattle.spacing.specs.Spacing.{Step, down_by, up_by, places_at}
use Rattle.floats.proofs.Laws.Order.{le_total_f}
use Rattle.spacing.proofs.Ticks.{offset_number}
use Rattle.floats.proofs.Laws.Rounding.{any_sum, any_difference}
use Rattle.floats.proofs.Laws.Within.{finite_within}
use Rattle.spacing.proofs.Directions.{down_stays_out, up_stays_out, down_out, up_out}
use Rattle.spacing.proofs.Counts.{at_most_8192}

-- what two places add to two counts
pair_counts : (b c : Bool) (x y : Float) (m n : ℕ) → m + n + length (only_if b x ++ only_if c y) ≡ count_if b m + count_if c n
pair_counts true true x y m n = omega arith
pair_counts true false x y m n = omega arith
pair_counts false true x y m n = omega arith
pair_counts false false x y m n = omega arith

module _ (start step low high : Float) (p : Within start) (q : Within low) (r : Within high) (s : Step step) where
  -- both are out at the turn k, so they are at each later turn
  nothing_left : (k i : ℕ) → k ≤ i → suc i < 16777216 → lt (down_by start step (suc k)) low ≡ true → lt high (up_by start step (suc k)) ≡ true → places_at start low high step i ≡ []
  nothing_left k i l h a b =
      ap₂ (λ (u v : Bool). only_if u (down_by start step (suc i)) ++ only_if v (up_by start step (suc i)))
      (not-true (le low (down_by start step (suc i))) (sym (le_total_f binary32 low (down_by start step (suc i)) q.number D) ∙ down_stays_out start step low (suc k) (suc i) (finite_within start p) q.number s (zero-lt-suc k) (suc-le-suc l) h a))
      (not-true (le (up_by start step (suc i)) high) (sym (le_total_f binary32 (up_by start step (suc i)) high U r.number) ∙ up_stays_out start step high (suc k) (suc i) (finite_within start p) r.number s (zero-lt-suc k) (suc-le-suc l) h b))
    where
      D : Number binary32 (down_by start step (suc i))
      D = any_difference binary32 start _ (finite_within start p) (offset_number step (suc i) s (zero-lt-suc i) h)

      U : Number binary32 (up_by start step (suc i))
      U = any_sum binary32 start _ (finite_within start p) (offset_number step (suc i) s (zero-lt-suc i) h)

  -- so the Rust's `break` drops nothing
  pub break_drops_nothing : (k n : ℕ) → k ≤ n → n < 16777216 → lt (down_by start step (suc k)) low ≡ true → lt high (up_by start step (suc k)) ≡ true → flat_to n (places_at start low high step) ≡ flat_to k (places_at start low high step)
  break_drops_nothing k n l h a b = flat_quiet (places_at start low high step) k n l (λ i u v. nothing_left k i u (omega arith) a b)

  -- and 8192 turns find all
  pub all_by_8192 : (n : ℕ) → 8192 ≤ n → n < 16777216 → flat_to n (places_at start low high step) ≡ flat_to 8192 (places_at start low high step)
  all_by_8192 n l h = break_drops_nothing 8192 n l h (down_out start step low 8193 p q s (le_refl 8193) (omega arith)) (up_out start step high 8193 p r s (le_refl 8193) (omega arith))

  places_length : (n : ℕ) → length (flat_to n (places_at start low high step)) ≡ count_to n (λ i. le low (down_by start step (suc i))) + count_to n (λ i. le (up_by start step (suc i)) high)
  unfolding flat_to count_to
  places_length zero = refl
  places_length (suc n) =
      length-append (flat_to n (places_at start low high step)) (places_at start low high step n)
      ∙ ap (λ (m : ℕ). m + length (places_at start low high step n)) (places_length n)
      ∙ pair_counts (le low (down_by start step (suc n))) (le (up_by start step (suc n)) high) (down_by start step (suc n)) (up_by start step (suc n)) (count_to n (λ i. le low (down_by start step (suc i)))) (count_to n (λ i. le (up_by start step (suc i)) high))

  pub few_places : (n : ℕ) → n < 16777216 → length (flat_to n (places_at start low high step)) ≤ 8192
  few_places n h = le_trans (le_of_eq (places_length n)) (at_most_8192 start step low high n p q r s h)
