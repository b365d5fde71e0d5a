-- The list of candidates by its three kinds, and the same list as a walk. Each float fits binary32, as every f32 does. Assumes nothing.
use mathlib.Core.Path.{◌≡◌, refl, sym, ap, ap₂, subst, ◌∙◌}
use mathlib.Core.Bool.{Bool, true, false, cond, not, ◌&&◌, ◌||◌, true≢false}
use mathlib.Core.List.{List, [], ◌∷◌}
use Prim.Native.Nat.{ℕ, ◌≤◌, zero-le}
use borrow.Author.Tests.{not-true, not-false}
use lib.Dec.{T}
use lib.ListN.{length}
use lib.Ieee.{Float, binary32, neg, is_nan, fits, lt, le}
use Rattle.lists.specs.Gather.{flat_to}
use Rattle.floats.specs.Leaves.{clamp}
use Rattle.floats.specs.Values.{Number, Within}
use Rattle.floats.specs.Arithmetic.{zero32, sixty_four, sixty_fourth}
use Rattle.spacing.specs.Spacing.{Step, places_at}
use Rattle.floats.proofs.Laws.Order.{le_total_f, neg_number, number}
use Rattle.floats.proofs.Laws.Within.{clamp_within}
use Rattle.tries.specs.declared.Span.{Span}
use Rattle.tries.specs.Tries.{crossed, middle, candidates_to, candidates_of, too_far, too_fine, unfit, first_candidate, walks, has_place, turns_from, turns_of, walked, tries_of, tried_at}
use Rattle.lists.proofs.Bools.{neither, both_true, right_false}
use Rattle.lists.proofs.Counting.{count_le}
use Rattle.tries.proofs.CandidatesWalk.{turns_do, tries_are_turns}
use Rattle.floats.proofs.Laws.Constants.{zero_number, sixty_four_number, sixty_fourth_number}

-- ---- what is not refused meets the laws' conditions
-- not above is at most
at_most : (x y : Float) → Number binary32 x → Number binary32 y → lt y x ≡ false → le x y ≡ true
at_most x y p q e = not-false (le x y) (sym (le_total_f binary32 x y p q) ∙ e)

-- not too far is within 64
within : (v : Float) → Number binary32 v → too_far v ≡ false → Within v
within v n e =
    let o = neither (lt v (neg sixty_four)) (lt sixty_four v) e in
    record { number = n; lowest = at_most (neg sixty_four) v (neg_number binary32 sixty_four sixty_four_number) n o.0; highest = at_most v sixty_four n sixty_four_number o.1 }

-- above 0 and not too fine is 1/64 at least
coarse : (v : Float) → Number binary32 v → too_fine v ≡ false → le v zero32 ≡ false → Step v
coarse v n f z =
    let up : lt zero32 v ≡ true = le_total_f binary32 v zero32 n zero_number ∙ ap not z in
    record { number = n; lowest = at_most sixty_fourth v sixty_fourth_number n (right_false (lt zero32 v) (lt v sixty_fourth) up f) }

-- what the laws about places ask, for a walk
pub record Walkable (start min max step : Float) : Type 0 where
  pub ordered : crossed min max ≡ false
  pub away : le step zero32 ≡ false
  pub first : Within (clamp start min max)
  pub low : Within min
  pub high : Within max
  pub stride : Step step

-- there are at most 8192 turns
pub few_turns : (start min max step : Float) → turns_of start min max step ≤ 8192
unfolding turns_of
few_turns start min max step = go (walks start min max step)
  where
    go : (b : Bool) → cond b (turns_from (first_candidate start min max) min max step) 0 ≤ 8192
    go true = count_le 8192 (has_place (first_candidate start min max) min max step)
    go false = zero-le

-- each float fits binary32
pub record Held (start min max step : Float) : Type 0 where
  pub fits_start : T (fits binary32 start)
  pub fits_min : T (fits binary32 min)
  pub fits_max : T (fits binary32 max)
  pub fits_step : T (fits binary32 step)

-- as a function is told of a span
pub held : (s : Span) {A B C D E : Type 0} → (A × (fits binary32 s.start ≡ true)) × ((B × (fits binary32 s.min ≡ true)) × ((C × (fits binary32 s.max ≡ true)) × ((D × (fits binary32 s.step ≡ true)) × E))) → Held s.start s.min s.max s.step
held s g = record {
  fits_start = subst T (sym g.0.1) tt;
  fits_min = subst T (sym g.1.0.1) tt;
  fits_max = subst T (sym g.1.1.0.1) tt;
  fits_step = subst T (sym g.1.1.1.0.1) tt;
}

module _ (start min max step : Float) (f : Held start min max step) where
  -- floats that are fit, and a step above 0
  pub walkable : crossed min max ≡ false → unfit start min max step ≡ false → le step zero32 ≡ false → Walkable start min max step
  walkable c u z = record {
    ordered = c;
    away = z;
    first = clamp_within start min max start_number low high (at_most min max min_number max_number bounds.1);
    low = low;
    high = high;
    stride = coarse step step_number four.1 z;
  }
    where
      bounds : (is_nan min || is_nan max ≡ false) × (lt max min ≡ false)
      bounds = unfold crossed in neither (is_nan min || is_nan max) (lt max min) c

      numbers : (is_nan min ≡ false) × (is_nan max ≡ false)
      numbers = neither (is_nan min) (is_nan max) bounds.0

      all : (is_nan start || too_far min || too_far max || is_nan step || too_fine step) ≡ false
      all = unfold unfit in right_false (not (crossed min max)) (is_nan start || too_far min || too_far max || is_nan step || too_fine step) (ap not c) u

      four : (is_nan start || too_far min || too_far max || is_nan step ≡ false) × (too_fine step ≡ false)
      four = neither (is_nan start || too_far min || too_far max || is_nan step) (too_fine step) all

      three : (is_nan start || too_far min || too_far max ≡ false) × (is_nan step ≡ false)
      three = neither (is_nan start || too_far min || too_far max) (is_nan step) four.0

      two : (is_nan start || too_far min ≡ false) × (too_far max ≡ false)
      two = neither (is_nan start || too_far min) (too_far max) three.0

      one : (is_nan start ≡ false) × (too_far min ≡ false)
      one = neither (is_nan start) (too_far min) two.0

      start_number : Number binary32 start
      start_number = number binary32 start f.fits_start one.0

      min_number : Number binary32 min
      min_number = number binary32 min f.fits_min numbers.0

      max_number : Number binary32 max
      max_number = number binary32 max f.fits_max numbers.1

      step_number : Number binary32 step
      step_number = number binary32 step f.fits_step three.1

      low : Within min
      low = within min min_number one.1

      high : Within max
      high = within max max_number two.1

  -- whether it walks, by what the code has in hand
  pub walks_told : (a b w : Bool) → a ≡ crossed min max → b ≡ unfit start min max step → (not a && not b && not (le step zero32)) ≡ w → walks start min max step ≡ w
  unfolding walks
  walks_told a b w ea eb t = sym (ap₂ (λ (x y : Bool). not x && not y && not (le step zero32)) ea eb) ∙ t

  -- where it walks, the laws' conditions hold
  pub walks_walkable : walks start min max step ≡ true → Walkable start min max step
  unfolding walks
  walks_walkable e =
      let o = both_true (not (crossed min max) && not (unfit start min max step)) (not (le step zero32)) e in
      let p = both_true (not (crossed min max)) (not (unfit start min max step)) o.0 in
      walkable (not-true (crossed min max) p.0) (not-true (unfit start min max step) p.1) (not-true (le step zero32) o.1)

  -- ---- the three kinds of list
  pub data Kind : Type 0 where
    only_middle : crossed min max ≡ true → Kind
    only_start : crossed min max ≡ false → le step zero32 ≡ true → Kind
    walk : Walkable start min max step → Kind

  -- which kind it is
  pub kind : unfit start min max step ≡ false → Kind
  kind u = go (crossed min max) (le step zero32) refl refl
    where
      go : (a b : Bool) → crossed min max ≡ a → le step zero32 ≡ b → Kind
      go true b c z = only_middle c
      go false true c z = only_start c z
      go false false c z = walk (walkable c u z)

  -- the list of each kind
  pub list_middle : (n : ℕ) → crossed min max ≡ true → candidates_to n start min max step ≡ middle min max ∷ []
  unfolding candidates_to
  list_middle n c = ap (λ (b : Bool). cond b (middle min max ∷ []) (clamp start min max ∷ cond (le step zero32) [] (flat_to n (places_at (clamp start min max) min max step)))) c

  pub list_by : (n : ℕ) (b : Bool) → crossed min max ≡ false → le step zero32 ≡ b → candidates_to n start min max step ≡ clamp start min max ∷ cond b [] (flat_to n (places_at (clamp start min max) min max step))
  unfolding candidates_to
  list_by n b c z =
      ap₂ (λ (a e : Bool). cond a (middle min max ∷ []) (clamp start min max ∷ cond e [] (flat_to n (places_at (clamp start min max) min max step)))) c z

  pub list_walk : (n : ℕ) → Walkable start min max step → candidates_to n start min max step ≡ clamp start min max ∷ flat_to n (places_at (clamp start min max) min max step)
  list_walk n w = list_by n false w.ordered w.away

  -- ---- the walk gives the same list
  -- its first candidate, by the kind
  first_middle : crossed min max ≡ true → first_candidate start min max ≡ middle min max
  unfolding first_candidate
  first_middle c = ap (λ (b : Bool). cond b (middle min max) (clamp start min max)) c

  pub first_clamped : crossed min max ≡ false → first_candidate start min max ≡ clamp start min max
  unfolding first_candidate
  first_clamped c = ap (λ (b : Bool). cond b (middle min max) (clamp start min max)) c

  -- its turns, by whether it walks
  turns_by : (b : Bool) → walks start min max step ≡ b → turns_of start min max step ≡ cond b (turns_from (first_candidate start min max) min max step) 0
  unfolding turns_of
  turns_by b e = ap (λ (a : Bool). cond a (turns_from (first_candidate start min max) min max step) 0) e

  -- without a walk there is only the first
  pub walked_none : walks start min max step ≡ false → walked start min max step ≡ []
  unfolding flat_to
  walked_none e = ap (λ (m : ℕ). flat_to m (places_at (first_candidate start min max) min max step)) (turns_by false e)

  -- the walk finds all places
  pub walked_all : walks start min max step ≡ true → walked start min max step ≡ flat_to 8192 (places_at (first_candidate start min max) min max step)
  walked_all e =
      let w = walks_walkable e in
      ap (λ (m : ℕ). flat_to m (places_at (first_candidate start min max) min max step)) (turns_by true e)
      ∙ turns_do (first_candidate start min max) min max step (subst Within (sym (first_clamped w.ordered)) w.first) w.low w.high w.stride

  -- a walk's list after its first candidate, in the function's words
  pub walk_told : (first : Float) (turns count : ℕ) → walks start min max step ≡ true → first ≡ first_candidate start min max → turns ≡ turns_from first min max step → count ≡ length (flat_to 8192 (places_at first min max step))
      → (turns ≡ turns_of start min max step) × (count ≡ length (walked start min max step))
  walk_told first turns count e f t c = (
    t ∙ ap (λ (v : Float). turns_from v min max step) f ∙ sym (turns_by true e),
    c ∙ ap (λ (v : Float). length (flat_to 8192 (places_at v min max step))) f ∙ ap length (sym (walked_all e)),
  )

  -- and where there is none
  pub no_walk_told : walks start min max step ≡ false → (0 ≡ turns_of start min max step) × (0 ≡ length (walked start min max step))
  no_walk_told e = (sym (turns_by false e), ap length (sym (walked_none e)))

  -- the candidates are the first one and those of the walk
  pub candidates_walked : unfit start min max step ≡ false → candidates_of start min max step ≡ first_candidate start min max ∷ walked start min max step
  candidates_walked u = go (kind u)
    where
      no_walk : (a b : Bool) → crossed min max ≡ a → le step zero32 ≡ b → (not a && not b) ≡ false → walks start min max step ≡ false
      no_walk a b c z e = unfold walks in ap₂ (λ (x y : Bool). not x && not (unfit start min max step) && not y) c z ∙ cases a b (not (unfit start min max step)) e
        where
          cases : (a b t : Bool) → (not a && not b) ≡ false → (not a && t && not b) ≡ false
          cases true b t e = refl
          cases false true true e = refl
          cases false true false e = refl
          cases false false t e = absurd (true≢false e)

      go : Kind → candidates_of start min max step ≡ first_candidate start min max ∷ walked start min max step
      go (only_middle c) = list_middle 8192 c ∙ ap₂ (λ (x : Float) (l : List Float). x ∷ l) (sym (first_middle c)) (sym (walked_none (no_walk true (le step zero32) c refl refl)))
      go (only_start c z) = list_by 8192 true c z ∙ ap₂ (λ (x : Float) (l : List Float). x ∷ l) (sym (first_clamped c)) (sym (walked_none (no_walk false true c z refl)))
      go (walk w) =
          list_walk 8192 w
          ∙ ap (λ (v : Float). v ∷ flat_to 8192 (places_at v min max step)) (sym (first_clamped w.ordered))
          ∙ ap (λ (l : List Float). first_candidate start min max ∷ l) (sym (walked_all (unfold walks in ap₂ (λ (x y : Bool). not x && not (unfit start min max step) && not y) w.ordered w.away ∙ ap (λ (x : Bool). not x && true) u)))

  -- and with one place at a time
  pub candidates_by_tries : unfit start min max step ≡ false → candidates_of start min max step ≡ first_candidate start min max ∷ flat_to (tries_of start min max step) (tried_at (first_candidate start min max) min max step)
  candidates_by_tries u = candidates_walked u ∙ ap (λ (l : List Float). first_candidate start min max ∷ l) (sym (tries_are_turns (first_candidate start min max) min max step (turns_of start min max step)))
