-- What holds of the players in excess: the list is that of the players in the area, sorted by the order of naming, and cut off. Assumes nothing.
use mathlib.Core.Path.{◌≡◌, refl, sym, ap, ap₂, subst, ◌∙◌}
use mathlib.Core.Bool.{Bool, true, false, true≢false, not, ◌&&◌}
use mathlib.Core.List.{List}
use mathlib.Core.Logic.{⊎_elim}
use Prim.Native.Nat.{ℕ, ◌+◌, ◌-◌, ◌≤◌, ◌<◌, compare, Ordering}
use native.Mathlib.Omega.{arith}
use lib.Dec.{ltb}
use lib.ListN.{length, drop, get_or, replicate, get_or-append}
use lib.Ieee.{le}
use borrow.Author.Tests.{ltb-true, ltb-false}
use Rattle.lists.specs.Put.{fronted}
use Rattle.lists.specs.Table.{table}
use Rattle.lists.proofs.Table.{length_table, table_at, table_same}
use Rattle.floats.specs.Arithmetic.{zero32}
use Rattle.game.specs.declared.Team.{Team}
use Rattle.game.specs.declared.Penalty.{Penalty}
use Rattle.game.specs.declared.Player.{Player}
use Rattle.game.specs.Game.{is_unpenalized}
use Rattle.game.specs.Players.{player_at, margins_at, listed}
use Rattle.geometry.specs.Turned.{changed_team}
use Rattle.geometry.proofs.Turned.{player_at_changed}
use Rattle.lists.specs.Ranking.{and_then, is_less, rank}
use Rattle.excess.specs.Excess.{newcomer_first, margin_at, is_newcomer, in_goal_area, inside, named_before, named, allowed, goal_area_excess}
use Rattle.excess.specs.ExcessKeys.{margin_order}
use Rattle.lists.proofs.Counting.{count_same}
use Rattle.lists.proofs.Ranking as R
use Rattle.lists.proofs.Ranking.{ranked_same}
use Rattle.lists.proofs.Bools.{by_test}
use Rattle.lists.proofs.Lexical.{Sooner, sooner, is_sooner, not_itself, through, one_of_two}
use Rattle.std.specs.Prelude.{Option}
use Rattle.game.specs.declared.Margins.{Margins}

-- newcomers first, as a comparison of numbers
late : Bool → ℕ
late true = 0
late false = 1

as_numbers : (a b : Bool) → newcomer_first a b ≡ compare (late a) (late b)
unfolding late
as_numbers true true = refl
as_numbers true false = refl
as_numbers false true = refl
as_numbers false false = refl

module _ (team : Team) (margins : List (Option Margins)) (prefer : Bool) where
  -- ---- the order of naming is a strict total order
  Earlier : ℕ → ℕ → Type 0
  Earlier i j = Sooner (late (is_newcomer prefer (player_at team i))) (late (is_newcomer prefer (player_at team j))) (margin_order (margins_at margins i)) (margin_order (margins_at margins j)) (j < i)

  earlier : (i j : ℕ) → named_before team margins prefer i j ≡ true → Earlier i j
  unfolding named_before Earlier
  earlier i j t =
      sooner (late (is_newcomer prefer (player_at team i))) (late (is_newcomer prefer (player_at team j))) (margin_order (margins_at margins i)) (margin_order (margins_at margins j)) j i
      (sym (ap (λ (o : Ordering). is_less (and_then o (and_then (compare (margin_order (margins_at margins i)) (margin_order (margins_at margins j))) (compare j i)))) (as_numbers (is_newcomer prefer (player_at team i)) (is_newcomer prefer (player_at team j)))) ∙ t)

  is_earlier : (i j : ℕ) → Earlier i j → named_before team margins prefer i j ≡ true
  unfolding named_before Earlier
  is_earlier i j e =
      ap (λ (o : Ordering). is_less (and_then o (and_then (compare (margin_order (margins_at margins i)) (margin_order (margins_at margins j))) (compare j i)))) (as_numbers (is_newcomer prefer (player_at team i)) (is_newcomer prefer (player_at team j)))
      ∙ is_sooner (late (is_newcomer prefer (player_at team i))) (late (is_newcomer prefer (player_at team j))) (margin_order (margins_at margins i)) (margin_order (margins_at margins j)) j i e

  pub named_irreflexive : (i : ℕ) → named_before team margins prefer i i ≡ false
  unfolding Earlier
  named_irreflexive i =
      by_test (named_before team margins prefer i i)
      (λ t. absurd (not_itself (late (is_newcomer prefer (player_at team i))) (margin_order (margins_at margins i)) (λ (h : i < i). omega arith) (earlier i i t)))
      (λ f. f)

  pub named_transitive : (i j k : ℕ) → named_before team margins prefer i j ≡ true → named_before team margins prefer j k ≡ true → named_before team margins prefer i k ≡ true
  unfolding Earlier
  named_transitive i j k s t =
      is_earlier i k
      (through (late (is_newcomer prefer (player_at team i))) (late (is_newcomer prefer (player_at team j))) (late (is_newcomer prefer (player_at team k))) (margin_order (margins_at margins i)) (margin_order (margins_at margins j)) (margin_order (margins_at margins k))
      (λ (h : j < i) (m : k < j). omega arith) (earlier i j s) (earlier j k t))

  pub named_total : (i j : ℕ) → (i ≡ j → ⊥) → named_before team margins prefer i j ≡ false → named_before team margins prefer j i ≡ true
  unfolding Earlier
  named_total i j n f =
      ⊎_elim (λ (e : Earlier i j). absurd (true≢false (sym (is_earlier i j e) ∙ f))) (λ (e : Earlier j i). is_earlier j i e)
      (one_of_two (late (is_newcomer prefer (player_at team i))) (late (is_newcomer prefer (player_at team j))) (margin_order (margins_at margins i)) (margin_order (margins_at margins j)) j i (λ (e : j ≡ i). n (sym e)))

  total : (i j : ℕ) → i < 20 → j < 20 → in_goal_area team margins i ≡ true → in_goal_area team margins j ≡ true → (i ≡ j → ⊥) → named_before team margins prefer i j ≡ false → named_before team margins prefer j i ≡ true
  total i j l m s t n f = named_total i j n f

  -- how many in the area come before i
  rank_of : ℕ → ℕ
  rank_of i = rank 20 (in_goal_area team margins) (named_before team margins prefer) i

  -- ---- the list
  -- exactly as many are named as there are more than three
  pub excess_count : (goal_area_excess team margins prefer).count ≡ inside team margins - 3
  unfolding goal_area_excess listed
  excess_count = length_table (inside team margins - allowed) (λ k. named team margins prefer k + 1)

  -- the list's k-th number, from 0, is that of the k-th to be named
  pub excess_number : (k : ℕ) → k < inside team margins - 3 → get_or (goal_area_excess team margins prefer).numbers k 0 ≡ named team margins prefer k + 1
  unfolding goal_area_excess listed fronted
  excess_number k h =
      let l = table (inside team margins - allowed) (λ j. named team margins prefer j + 1) in
      let long : k < length l = subst (λ (n : ℕ). k < n) (sym (length_table (inside team margins - allowed) (λ j. named team margins prefer j + 1))) h in
      get_or-append l (drop (length l) (replicate 20 0)) 0 k long ∙ table_at (inside team margins - allowed) (λ j. named team margins prefer j + 1) 0 k h

  there : (k : ℕ) → k < inside team margins - 3 → (named team margins prefer k < 20) × (in_goal_area team margins (named team margins prefer k) ≡ true) × (rank_of (named team margins prefer k) ≡ k)
  unfolding rank_of named inside
  there k h = R.ranked_there 20 (in_goal_area team margins) (named_before team margins prefer) named_irreflexive named_transitive total k (omega arith)

  -- who is named is one of the 20 and in the area
  pub excess_inside : (k : ℕ) → k < inside team margins - 3 → (named team margins prefer k < 20) × (in_goal_area team margins (named team margins prefer k) ≡ true)
  excess_inside k h = ((there k h).0, (there k h).1)

  -- nobody is named twice
  pub excess_once : (j k : ℕ) → j < inside team margins - 3 → k < inside team margins - 3 → named team margins prefer j ≡ named team margins prefer k → j ≡ k
  excess_once j k g h e = sym (there j g).2 ∙ ap rank_of e ∙ (there k h).2

  -- each comes before the later ones
  pub excess_order : (j k : ℕ) → j < k → k < inside team margins - 3 → named_before team margins prefer (named team margins prefer j) (named team margins prefer k) ≡ true
  unfolding rank_of
  excess_order j k l h =
      let g : j < inside team margins - 3 = omega arith in
      R.order_follows 20 (in_goal_area team margins) (named_before team margins prefer) named_irreflexive named_transitive total (named team margins prefer j) (named team margins prefer k)
      (there j g).0 (there k h).0 (there j g).1 (there k h).1 (omega (arith, (there j g).2, (there k h).2))

  -- whoever is named comes before everybody in the area who is not
  pub excess_first : (i k : ℕ) → i < 20 → in_goal_area team margins i ≡ true → ((j : ℕ) → j < inside team margins - 3 → named team margins prefer j ≡ i → ⊥)
      → k < inside team margins - 3 → named_before team margins prefer (named team margins prefer k) i ≡ true
  unfolding rank_of named
  excess_first i k l t unnamed h =
      let far : inside team margins - 3 ≤ rank_of i =
      by_test (ltb (rank_of i) (inside team margins - 3))
      (λ s. absurd (unnamed (rank_of i) (ltb-true (rank_of i) (inside team margins - 3) s) (R.ranked_is 20 (in_goal_area team margins) (named_before team margins prefer) named_irreflexive named_transitive total i (rank_of i) l t refl)))
      (λ f. ltb-false (rank_of i) (inside team margins - 3) f)
      in
      R.order_follows 20 (in_goal_area team margins) (named_before team margins prefer) named_irreflexive named_transitive total (named team margins prefer k) i (there k h).0 l (there k h).1 t
      (omega (arith, far, (there k h).2))

-- ---- the list depends on the penalties, on who was inside before and on the margins alone
module _ (team other : Team) (margins : List (Option Margins)) (prefer : Bool)
    (penalties : (i : ℕ) → i < 20 → (player_at other i).penalty ≡ (player_at team i).penalty)
    (flags : (i : ℕ) → i < 20 → (player_at other i).previously_inside ≡ (player_at team i).previously_inside)
  where
    same_area : (i : ℕ) → i < 20 → in_goal_area other margins i ≡ in_goal_area team margins i
    unfolding in_goal_area
    same_area i l = ap (λ (p : Penalty). is_unpenalized p && le zero32 (margin_at margins i)) (penalties i l)

    same_newcomer : (i : ℕ) → i < 20 → is_newcomer prefer (player_at other i) ≡ is_newcomer prefer (player_at team i)
    same_newcomer i l = ap (λ (b : Bool). prefer && not b) (flags i l)

    same_order : (i j : ℕ) → i < 20 → j < 20 → named_before other margins prefer i j ≡ named_before team margins prefer i j
    unfolding named_before
    same_order i j l m =
        ap₂ (λ (a b : Bool). is_less (and_then (newcomer_first a b) (and_then (compare (margin_order (margins_at margins i)) (margin_order (margins_at margins j))) (compare j i)))) (same_newcomer i l) (same_newcomer j m)

    same_inside : inside other margins ≡ inside team margins
    unfolding inside
    same_inside = count_same 20 (in_goal_area other margins) (in_goal_area team margins) same_area

    same_named : (k : ℕ) → named other margins prefer k ≡ named team margins prefer k
    unfolding named
    same_named k =
        ranked_same 20 (in_goal_area other margins) (in_goal_area team margins) (named_before other margins prefer) (named_before team margins prefer) k same_area
        (λ i j l m s t. same_order i j l m)

    pub excess_same : goal_area_excess other margins prefer ≡ goal_area_excess team margins prefer
    unfolding goal_area_excess
    excess_same =
        ap listed
        (ap (λ (n : ℕ). table (n - allowed) (λ k. named other margins prefer k + 1)) same_inside
        ∙ table_same (inside team margins - allowed) (λ k. named other margins prefer k + 1) (λ k. named team margins prefer k + 1) (λ k l. ap (λ (i : ℕ). i + 1) (same_named k)))

-- so a half turn and a mirror image, which keep these, keep it
pub excess_changed : (a b : Bool) (t : Team) (m : List (Option Margins)) (newcomers : Bool) → goal_area_excess (changed_team a b t) m newcomers ≡ goal_area_excess t m newcomers
excess_changed a b t m newcomers =
    excess_same t (changed_team a b t) m newcomers (λ i h. ap (λ (q : Player). q.penalty) (player_at_changed a b t i)) (λ i h. ap (λ (q : Player). q.previously_inside) (player_at_changed a b t i))
