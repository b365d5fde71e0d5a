-- The walk gives the candidates after the first: a k that has no place within the bounds is followed by none that has one, so the k that do are the first ones. Assumes nothing.
use mathlib.Core.Path.{◌≡◌, refl, sym, ap, ap₂, ◌∙◌}
use mathlib.Core.Bool.{Bool, true, false, cond, not, ◌&&◌, ◌||◌, true≢false}
use mathlib.Core.List.{List, [], ◌∷◌, ◌++◌, append-nil, append_assoc}
use mathlib.Core.Logic.{◌⊎◌, inl, inr}
use Prim.Native.Nat.{ℕ, zero, suc, ◌+◌, ◌*◌, ◌/◌, ◌%◌, ◌≤◌, ◌<◌, suc-le-suc}
use native.Mathlib.Nat.{le_refl, le_step, zero-lt-suc, eq-or-lt_of_le, le_of_suc-le-suc}
use native.Mathlib.Numerals.{add-one}
use native.Mathlib.Omega.{arith}
use borrow.Author.Tests.{eq-eqb, ne_eqb}
use lib.Dec.{eqb}
use lib.ListN.{length, length-append}
use lib.Ieee.{Float, binary32, lt, le}
use mir.Val.{bool_byte}
use Rattle.lists.proofs.Bools.{both_true, or_left, or_right, neither}
use Rattle.lists.specs.Gather.{flat_to, only_if}
use Rattle.lists.specs.Put.{count_if}
use Rattle.lists.specs.Counting.{count_to}
use Rattle.lists.proofs.Counting.{count_none}
use Rattle.floats.specs.Arithmetic.{◌+₃₂◌, ◌-₃₂◌, ◌*₃₂◌}
use Rattle.floats.specs.Leaves.{of_count}
use Rattle.floats.specs.Values.{Number, Within}
use Rattle.spacing.specs.Spacing.{Step, down_by, up_by, places_at}
use Rattle.floats.proofs.Laws.Order.{le_total_f}
use Rattle.spacing.proofs.Ticks.{offset_number}
use Rattle.floats.proofs.Laws.Rounding.{any_sum, any_difference}
use Rattle.floats.proofs.Laws.Within.{finite_within}
use Rattle.spacing.proofs.Directions.{down_front, up_front}
use Rattle.spacing.proofs.Places.{break_drops_nothing}
use Rattle.tries.specs.Tries.{has_place, turns_from, candidate_at, is_candidate, tried_at}

-- ---- counts
-- one more passes
count_all_but : (p : ℕ → Bool) (n : ℕ) → p n ≡ true → count_to n p ≡ n → count_to (suc n) p ≡ suc n
unfolding count_to
count_all_but p n t e = ap₂ count_if t e ∙ add-one n

-- or not
count_kept : (p : ℕ → Bool) (n : ℕ) → p n ≡ false → count_to (suc n) p ≡ count_to n p
unfolding count_to
count_kept p n t = ap (λ (b : Bool). count_if b (count_to n p)) t

-- where all pass
count_all : (p : ℕ → Bool) (n : ℕ) → ((k : ℕ) → k < n → p k ≡ true) → count_to n p ≡ n
count_all p zero h = sym (count_none p)
count_all p (suc n) h = count_all_but p n (h n (le_refl (suc n))) (count_all p n (λ k l. h k (le_step l)))

-- where none from k on does
count_quiet : (p : ℕ → Bool) (k n : ℕ) → k ≤ n → ((i : ℕ) → k ≤ i → i < n → p i ≡ false) → count_to n p ≡ count_to k p
count_quiet p k zero l h = ap (λ (m : ℕ). count_to m p) (omega arith)
count_quiet p k (suc n) l h = go (eq-or-lt_of_le l) (count_quiet p k n)
  where
    go : (k ≡ suc n) ⊎ (k < suc n) → (k ≤ n → ((i : ℕ) → k ≤ i → i < n → p i ≡ false) → count_to n p ≡ count_to k p) → count_to (suc n) p ≡ count_to k p
    go (inl e) ih = ap (λ (m : ℕ). count_to m p) (sym e)
    go (inr g) ih = count_kept p n (h n (le_of_suc-le-suc g) (le_refl (suc n))) ∙ ih (le_of_suc-le-suc g) (λ i a b. h i a (le_step b))

-- parts that are empty from a place on: the count of those before it is enough
count_front : (p : ℕ → Bool) (f : ℕ → List Float) (n : ℕ) → ((j i : ℕ) → j ≤ i → i < n → p i ≡ true → p j ≡ true) → ((i : ℕ) → p i ≡ false → f i ≡ []) → flat_to (count_to n p) f ≡ flat_to n f
count_front p f zero down quiet = ap (λ (m : ℕ). flat_to m f) (sym (count_none p))
count_front p f (suc n) down quiet = go (p n) refl (count_front p f n (λ j i a b. down j i a (le_step b)) quiet)
  where
    grow : flat_to (suc n) f ≡ flat_to n f ++ f n
    grow = unfold flat_to in refl

    go : (b : Bool) → p n ≡ b → flat_to (count_to n p) f ≡ flat_to n f → flat_to (count_to (suc n) p) f ≡ flat_to (suc n) f
    go true e ih = ap (λ (m : ℕ). flat_to m f) (count_all p (suc n) (λ k l. down k n (le_of_suc-le-suc l) (le_refl (suc n)) e))
    go false e ih = ap (λ (m : ℕ). flat_to m f) (count_kept p n e) ∙ ih ∙ sym (grow ∙ ap (λ (l : List Float). flat_to n f ++ l) (quiet n e) ∙ append-nil (flat_to n f))

-- ---- bools
-- De Morgan
either : (a b : Bool) → not (not a && not b) ≡ (a || b)
either true b = refl
either false true = refl
either false false = refl

-- by which of the two holds
by_either : {P : Type 0} (a b : Bool) → (a || b) ≡ true → (a ≡ true → P) → (b ≡ true → P) → P
by_either true b e f g = f refl
by_either false b e f g = g e

-- ---- two tries are a turn
module _ (first min max step : Float) where
  -- the two places of a turn
  lower : ℕ → List Float
  lower i = only_if (le min (down_by first step (suc i))) (down_by first step (suc i))

  upper : ℕ → List Float
  upper i = only_if (le (up_by first step (suc i)) max) (up_by first step (suc i))

  -- what a try adds
  try_adds : (j : ℕ) → tried_at first min max step j ≡ cond (eqb (j % 2) 0) (lower (j / 2)) (upper (j / 2))
  unfolding candidate_at is_candidate lower upper
  try_adds j = go (eqb (j % 2) 0)
    where
      D : Float
      D = down_by first step (suc (j / 2))

      U : Float
      U = up_by first step (suc (j / 2))

      go : (e : Bool) → only_if (cond e (le min (cond e D U)) (le (cond e D U) max)) (cond e D U) ≡ cond e (only_if (le min D) D) (only_if (le U max) U)
      go true = refl
      go false = refl

  -- by the half of j, and whether j is even
  try_is : (j i : ℕ) (e : Bool) → eqb (j % 2) 0 ≡ e → j / 2 ≡ i → tried_at first min max step j ≡ cond e (lower i) (upper i)
  try_is j i e t h = try_adds j ∙ ap₂ (λ (b : Bool) (k : ℕ). cond b (lower k) (upper k)) t h

  -- two tries give what a turn gives
  pub tries_are_turns : (n : ℕ) → flat_to (2 * n) (tried_at first min max step) ≡ flat_to n (places_at first min max step)
  unfolding flat_to lower upper
  tries_are_turns zero = refl
  tries_are_turns (suc n) =
      ap (λ (m : ℕ). flat_to m g) (next n)
      ∙ append_assoc (flat_to (2 * n) g) (g (2 * n)) (g (suc (2 * n)))
      ∙ ap₂ (λ (a b : List Float). a ++ b) (tries_are_turns n)
      (ap₂ (λ (a b : List Float). a ++ b) (try_is (2 * n) n true (eq-eqb (2 * n % 2) 0 (omega arith)) (half n)) (try_is (suc (2 * n)) n false (ne_eqb (suc (2 * n) % 2) 0 (λ e. omega (arith, e))) (half' n)))
    where
      g : ℕ → List Float
      g = tried_at first min max step

      next : (n : ℕ) → 2 * suc n ≡ suc (suc (2 * n))
      next n = omega arith

      half : (n : ℕ) → 2 * n / 2 ≡ n
      half n = omega arith

      half' : (n : ℕ) → suc (2 * n) / 2 ≡ n
      half' n = omega arith

-- ---- a walk
module _ (first min max step : Float) (p : Within first) (q : Within min) (r : Within max) (s : Step step) where
  -- the Rust's test for its `break` is the contrary of `has_place`
  out_or_place : (k : ℕ) → suc k < 16777216 → has_place first min max step k ≡ not (lt (down_by first step (suc k)) min && lt max (up_by first step (suc k)))
  out_or_place k h =
      sym (ap₂ (λ (a b : Bool). not (a && b)) (le_total_f binary32 min (down_by first step (suc k)) q.number D) (le_total_f binary32 (up_by first step (suc k)) max U r.number)
      ∙ either (le min (down_by first step (suc k))) (le (up_by first step (suc k)) max))
    where
      D : Number binary32 (down_by first step (suc k))
      D = any_difference binary32 first _ (finite_within first p) (offset_number step (suc k) s (zero-lt-suc k) h)

      U : Number binary32 (up_by first step (suc k))
      U = any_sum binary32 first _ (finite_within first p) (offset_number step (suc k) s (zero-lt-suc k) h)

  -- where a k has a place, each one before has
  place_before : (j i : ℕ) → j ≤ i → suc i < 16777216 → has_place first min max step i ≡ true → has_place first min max step j ≡ true
  place_before j i l h e =
      by_either (le min (down_by first step (suc i))) (le (up_by first step (suc i)) max) e
      (λ a. or_left (le min (down_by first step (suc j))) (le (up_by first step (suc j)) max) (down_front first step min (suc j) (suc i) (finite_within first p) q.number s (zero-lt-suc j) (suc-le-suc l) h a))
      (λ a. or_right (le min (down_by first step (suc j))) (le (up_by first step (suc j)) max) (up_front first step max (suc j) (suc i) (finite_within first p) r.number s (zero-lt-suc j) (suc-le-suc l) h a))

  -- the list of a k that has none is empty
  no_places : (i : ℕ) → has_place first min max step i ≡ false → places_at first min max step i ≡ []
  no_places i e =
      let o = neither (le min (down_by first step (suc i))) (le (up_by first step (suc i)) max) e in
      ap₂ (λ (a b : Bool). only_if a (down_by first step (suc i)) ++ only_if b (up_by first step (suc i))) o.0 o.1

  -- the turns give all places
  pub turns_do : flat_to (turns_from first min max step) (places_at first min max step) ≡ flat_to 8192 (places_at first min max step)
  turns_do = count_front (has_place first min max step) (places_at first min max step) 8192 (λ j i l h. place_before j i l (omega arith)) no_places

  -- where the walk stops, all that came before have a place and none after does
  turns_end : (k : ℕ) → k < 8192 → count_to k (has_place first min max step) ≡ k → has_place first min max step k ≡ false → turns_from first min max step ≡ k
  turns_end k h e t = count_quiet (has_place first min max step) k 8192 (omega arith) (λ i l b. quiet i l b (has_place first min max step i) refl) ∙ e
    where
      quiet : (i : ℕ) → k ≤ i → i < 8192 → (b : Bool) → has_place first min max step i ≡ b → b ≡ false
      quiet i l g true u = absurd (true≢false (sym (place_before k i l (omega arith) u) ∙ t))
      quiet i l g false u = refl

  -- the test of the turn k + 1, by its number as the code has it in hand
  tested : (v : Float) (k : ℕ) (b : Bool) → k < 8192 → v ≡ of_count (k + 1) → (lt (first -₃₂ v *₃₂ step) min && lt max (first +₃₂ v *₃₂ step)) ≡ b
      → ((lt (down_by first step (suc k)) min && lt max (up_by first step (suc k))) ≡ b) × (has_place first min max step k ≡ not b)
  tested v k b h d t =
      let e : (lt (down_by first step (suc k)) min && lt max (up_by first step (suc k))) ≡ b = sym (ap (λ (x : Float). lt (first -₃₂ x *₃₂ step) min && lt max (first +₃₂ x *₃₂ step)) (rw add-one at d)) ∙ t in
      (e, out_or_place k (omega arith) ∙ ap not e)

  -- where both are out the walk is over, and the Rust's `break` drops nothing
  pub walk_stops : (v : Float) (k n : ℕ) → k < 8192 → v ≡ of_count (k + 1) → (lt (first -₃₂ v *₃₂ step) min && lt max (first +₃₂ v *₃₂ step)) ≡ true
      → n ≡ length (flat_to k (places_at first min max step)) → count_to k (has_place first min max step) ≡ k → (k ≡ turns_from first min max step) × (n ≡ length (flat_to 8192 (places_at first min max step)))
  walk_stops v k n h d t en ek =
      let o = tested v k true h d t in
      let out = both_true (lt (down_by first step (suc k)) min) (lt max (up_by first step (suc k))) o.0 in (
        sym (turns_end k h ek o.1),
        en ∙ ap length (sym (break_drops_nothing first step min max p q r s k 8192 (omega arith) (omega arith) out.0 out.1)),
      )

  -- else the turn counts
  pub walk_goes_on : (v : Float) (k : ℕ) → k < 8192 → v ≡ of_count (k + 1) → (lt (first -₃₂ v *₃₂ step) min && lt max (first +₃₂ v *₃₂ step)) ≡ false
      → count_to k (has_place first min max step) ≡ k → count_to (k + 1) (has_place first min max step) ≡ k + 1
  walk_goes_on v k h d t ek = rw add-one (count_all_but (has_place first min max step) k (tested v k false h d t).1 ek)

  -- the walk's end at 8192
  pub walk_ends : (k n : ℕ) → k ≤ 8192 → 8192 ≤ k → n ≡ length (flat_to k (places_at first min max step)) → count_to k (has_place first min max step) ≡ k
      → (k ≡ turns_from first min max step) × (n ≡ length (flat_to 8192 (places_at first min max step)))
  walk_ends k n a b en ek =
      let e : k ≡ 8192 = omega arith in
      (sym ek ∙ ap (λ (m : ℕ). count_to m (has_place first min max step)) e, en ∙ ap (λ (m : ℕ). length (flat_to m (places_at first min max step))) e)

-- ---- one turn of the count
-- by the two tests
at_most_two : (a b : Bool) → bool_byte a + bool_byte b ≤ 2
at_most_two true true = omega arith
at_most_two true false = omega arith
at_most_two false true = omega arith
at_most_two false false = omega arith

grown : (a b : Bool) (x y : Float) (l : List Float) → length l + (bool_byte a + bool_byte b) ≡ length (l ++ (only_if a x ++ only_if b y))
grown true true x y l = omega (arith, length-append l (x ∷ y ∷ []))
grown true false x y l = omega (arith, length-append l (x ∷ []))
grown false true x y l = omega (arith, length-append l (y ∷ []))
grown false false x y l = omega (arith, length-append l [])

-- by the turn's number as the code has it in hand
pub two_more : (first min max step v : Float) → bool_byte (le min (first -₃₂ v *₃₂ step)) + bool_byte (le (first +₃₂ v *₃₂ step) max) ≤ 2
two_more first min max step v = at_most_two (le min (first -₃₂ v *₃₂ step)) (le (first +₃₂ v *₃₂ step) max)

pub count_grows : (first min max step v : Float) (k n : ℕ) → v ≡ of_count (k + 1) → n ≡ length (flat_to k (places_at first min max step))
    → n + (bool_byte (le min (first -₃₂ v *₃₂ step)) + bool_byte (le (first +₃₂ v *₃₂ step) max)) ≡ length (flat_to (k + 1) (places_at first min max step))
unfolding flat_to
count_grows first min max step v k n d e =
    rw add-one
    (ap₂ (λ (m : ℕ) (x : Float). m + (bool_byte (le min (first -₃₂ x *₃₂ step)) + bool_byte (le (first +₃₂ x *₃₂ step) max))) e (rw add-one at d)
    ∙ grown (le min (down_by first step (suc k))) (le (up_by first step (suc k)) max) (down_by first step (suc k)) (up_by first step (suc k)) (flat_to k (places_at first min max step)))
