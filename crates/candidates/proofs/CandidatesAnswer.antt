-- The refusal and the answer of a lent list: what is not refused is the first candidate and those of the walk; a refusal gives nothing and changes nothing, and only a refusal gives
-- nothing; and 8,200 places always do. Assumes nothing.
use mathlib.Core.Path.{◌≡◌, refl, sym, ap, ap₂, ◌∙◌}
use mathlib.Core.Bool.{Bool, true, false, cond, ◌||◌}
use mathlib.Core.List.{List, [], ◌∷◌, ◌++◌}
use Prim.Native.Nat.{ℕ, suc, ◌≤◌, ◌<◌, suc-le-suc}
use native.Mathlib.Nat.{le_trans, le_of_eq}
use native.Mathlib.Omega.{arith}
use borrow.Author.Tests.{leb-true, leb-false, lt-ltb, le-ltb, eq-eqb, ne_eqb}
use lib.Dec.{ltb, leb}
use lib.ListN.{length, drop}
use lib.Ieee.{Float}
use Rattle.lists.specs.Gather.{flat_to}
use Rattle.lists.specs.Put.{fronted}
use Rattle.lists.specs.Refusals.{first_refusal}
use Rattle.lists.proofs.Bools.{neither}
use Rattle.refusal.specs.Refusal.{unless_refused, number_in}
use Rattle.spacing.specs.Spacing.{places_at}
use Rattle.tries.specs.Tries.{candidates_of, unfit, first_candidate, turns_of, walked}
use Rattle.tries.proofs.CandidatesList.{Held, candidates_walked}
use Rattle.tries.proofs.CandidatesEnd.{some_candidate, few_candidates}
use Rattle.candidates.specs.Candidates.{too_long, requirements, refusal_of, answer_of}

-- ---- the answer, for any floats
-- what is not refused is given
pub answer_given : (start min max step : Float) (len : ℕ) → refusal_of start min max step len ≡ 0 → answer_of start min max step len ≡ candidates_of start min max step
unfolding answer_of
answer_given start min max step len e = ap (λ (b : Bool). cond b (candidates_of start min max step) []) (eq-eqb (refusal_of start min max step len) 0 e)

-- a refusal gives nothing
pub answer_refused : (start min max step : Float) (len : ℕ) → (refusal_of start min max step len ≡ 0 → ⊥) → answer_of start min max step len ≡ []
unfolding answer_of
answer_refused start min max step len e = ap (λ (b : Bool). cond b (candidates_of start min max step) []) (ne_eqb (refusal_of start min max step len) 0 e)

-- a refusal changes nothing in the lent list
pub refusal_keeps : (start min max step : Float) (s : List Float) → (refusal_of start min max step (length s) ≡ 0 → ⊥) → fronted (answer_of start min max step (length s)) s ≡ s
unfolding fronted
refusal_keeps start min max step s e = ap (λ (l : List Float). l ++ drop (length l) s) (answer_refused start min max step (length s) e)

-- and an empty answer means a refusal
pub empty_means_refused : (start min max step : Float) (len : ℕ) → answer_of start min max step len ≡ [] → refusal_of start min max step len ≡ 0 → ⊥
empty_means_refused start min max step len e z = some_candidate start min max step (sym (answer_given start min max step len z) ∙ e)

-- ---- the refusal, for any floats
-- unfit floats
pub refused_5 : (start min max step : Float) (len : ℕ) → unfit start min max step ≡ true → refusal_of start min max step len ≡ 5
unfolding refusal_of
refused_5 start min max step len u = ap (λ (b : Bool). first_refusal (requirements b (too_long start min max step len))) u

-- else by the length
by_length : (start min max step : Float) (len : ℕ) (b : Bool) → unfit start min max step ≡ false → too_long start min max step len ≡ b → refusal_of start min max step len ≡ first_refusal (requirements false b)
unfolding refusal_of
by_length start min max step len b u e = ap₂ (λ (a l : Bool). first_refusal (requirements a l)) u e

two_back : {A : Type 0} (x : A) (bad long : Bool) → number_in (unless_refused (first_refusal (requirements bad long)) x) ≡ first_refusal (requirements bad long)
two_back x true long = refl
two_back x false true = refl
two_back x false false = refl

-- the number is back from the refusal
pub number_back : {A : Type 0} (x : A) (start min max step : Float) (len : ℕ) → number_in (unless_refused (refusal_of start min max step len) x) ≡ refusal_of start min max step len
unfolding refusal_of
number_back x start min max step len = two_back x (unfit start min max step) (too_long start min max step len)

-- ---- each float fits binary32, as every f32 does
module _ (start min max step : Float) (f : Held start min max step) where
  -- the refusal and the answer by what the code has in hand: the walk's count m, and whether the floats are unfit
  module _ (m len : ℕ) (w : m ≡ length (walked start min max step)) where
    -- how long the list is
    needed : unfit start min max step ≡ false → length (candidates_of start min max step) ≡ suc m
    needed u = ap length (candidates_walked start min max step f u) ∙ ap suc (sym w)

    pub refused_6 : unfit start min max step ≡ false → leb len m ≡ true → refusal_of start min max step len ≡ 6
    refused_6 u t = by_length start min max step len true u (ap (ltb len) (needed u) ∙ lt-ltb len (suc m) (suc-le-suc (leb-true len m t)))

    pub not_refused : unfit start min max step ≡ false → leb len m ≡ false → refusal_of start min max step len ≡ 0
    not_refused u t = by_length start min max step len false u (ap (ltb len) (needed u) ∙ le-ltb len (suc m) (leb-false len m t))

    -- by both tests at once: a refusal gives nothing
    pub refused_empty : (u : Bool) → u ≡ unfit start min max step → (u || leb len m) ≡ true → answer_of start min max step len ≡ []
    refused_empty true e t = answer_refused start min max step len (λ z. let no : ◌≡◌ {A = ℕ} 5 0 = sym (refused_5 start min max step len (sym e)) ∙ z in omega arith)
    refused_empty false e t = answer_refused start min max step len (λ z. let no : ◌≡◌ {A = ℕ} 6 0 = sym (refused_6 (sym e) t) ∙ z in omega arith)

    -- what is not refused is the first candidate and those of the walk, and these have room
    pub answer_filled : (u : Bool) (first : Float) (turns : ℕ) → u ≡ unfit start min max step → (u || leb len m) ≡ false → first ≡ first_candidate start min max → turns ≡ turns_of start min max step
        → (length (flat_to turns (places_at first min max step)) < len) × (first ∷ flat_to turns (places_at first min max step) ≡ answer_of start min max step len)
    answer_filled u first turns e t h k =
        let tests = neither u (leb len m) t in
        let fit : unfit start min max step ≡ false = sym e ∙ tests.0 in
        let list : first ∷ flat_to turns (places_at first min max step) ≡ candidates_of start min max step =
        ap₂ (λ (v : Float) (n : ℕ). v ∷ flat_to n (places_at v min max step)) h k ∙ sym (candidates_walked start min max step f fit) in
        (le_trans (le_of_eq (ap length list ∙ needed fit)) (leb-false len m tests.1), list ∙ sym (answer_given start min max step len (not_refused fit tests.1)))

  -- 8,200 places always do
  pub places_do : (len : ℕ) → 8200 ≤ len → refusal_of start min max step len ≡ 6 → ⊥
  places_do len l e = go (unfit start min max step) refl
    where
      go : (u : Bool) → unfit start min max step ≡ u → ⊥
      go true u = let z : ◌≡◌ {A = ℕ} 5 6 = sym (refused_5 start min max step len u) ∙ e in omega arith
      go false u =
          let room = le-ltb len (length (candidates_of start min max step)) (le_trans (few_candidates start min max step f u) (le_trans (omega arith) l)) in
          let z : ◌≡◌ {A = ℕ} 0 6 = sym (by_length start min max step len false u room) ∙ e in
          omega arith
