-- A place in the lent words, and what the entry for it answers and leaves. Assumes nothing.
use mathlib.Core.Path.{◌≡◌, refl, sym, ap, ap₂, ◌∙◌}
use mathlib.Core.Bool.{Bool, true, false, cond}
use mathlib.Core.List.{List, [], ◌∷◌}
use Prim.Native.Nat.{ℕ, ◌≤◌}
use native.Mathlib.Omega.{arith}
use borrow.Author.Tests.{eq-eqb, ne_eqb}
use lib.Ieee.{Float, binary32, to_bits}
use lib.IntN.{ℤ, pos}
use lib.ListN.{length, set}
use Rattle.lists.specs.Put.{fronted}
use Rattle.game.specs.declared.Situation.{Situation}
use Rattle.decision.specs.Decision.{Answer, decision_of, empty_decision, answer_of, answered}
use Rattle.decision.proofs.Told.{answered_number}
use Rattle.game.specs.declared.Decision.{Decision}
use Rattle.refusal.specs.Refusal.{number_of}
use Rattle.refusal.specs.declared.Refusal.{Refusal}
use Rattle.refusal.proofs.Told.{not_refused, refused_by}
use Rattle.std.specs.Prelude.{Ok, Err}
use Rattle.words.specs.Words.{situation_of}
use Rattle.referee_c.specs.Entries.{minus, place_count, words_with, place_words, placed_number, is_place_asked, place_number, place_after}

-- five words stored one after the other are the front
five_set : (l : List ℕ) (a b c d e : ℕ) → 5 ≤ length l → set (set (set (set (set l 0 a) 1 b) 2 c) 3 d) 4 e ≡ fronted (a ∷ b ∷ c ∷ d ∷ e ∷ []) l
unfolding fronted
five_set [] a b c d e h = absurd (omega arith)
five_set (u ∷ []) a b c d e h = absurd (omega arith)
five_set (u ∷ v ∷ []) a b c d e h = absurd (omega arith)
five_set (u ∷ v ∷ w ∷ []) a b c d e h = absurd (omega arith)
five_set (u ∷ v ∷ w ∷ x ∷ []) a b c d e h = absurd (omega arith)
five_set (u ∷ v ∷ w ∷ x ∷ y ∷ l) a b c d e h = refl

pub words_put : (l : List ℕ) (side number p q r : ℕ) (x y z : Float) → 5 ≤ length l → p ≡ to_bits binary32 x → q ≡ to_bits binary32 y → r ≡ to_bits binary32 z
    → set (set (set (set (set l 0 side) 1 number) 2 p) 3 q) 4 r ≡ fronted (words_with side number x y z) l
words_put l side number p q r x y z h hp hq hr =
    five_set l side number p q r h
    ∙ ap (λ (t : List ℕ). fronted (side ∷ number ∷ t) l) (ap₂ (λ (u : ℕ) (t : List ℕ). u ∷ t) hp (ap₂ (λ (v w : ℕ). v ∷ w ∷ []) hq hr))

-- ---- what the entry answers and leaves
-- beside a refusal there is no place
no_words : (s : Situation) (xs ys : List Float) → ((answer_of s xs ys).refusal ≡ 0 → ⊥) → place_words (answer_of s xs ys).decision.place ≡ []
unfolding answer_of empty_decision
no_words s xs ys h = ap (λ (b : Bool). place_words (cond b (decision_of s xs ys) empty_decision).place) (ne_eqb (answer_of s xs ys).refusal 0 h)

module _ (ws : List ℕ) (xs ys : List Float) (place : List ℕ) where
  abbrev answer : Answer
  answer = answer_of (situation_of ws) xs ys

  -- the words are no situation, or fewer than five are lent
  pub place_unasked : is_place_asked ws (length place) ≡ false → (minus 100 ≡ place_number ws xs ys (length place)) × (place ≡ place_after ws xs ys place)
  unfolding place_number place_after
  place_unasked f =
      (ap (λ (b : Bool). cond b (placed_number answer) (minus 100)) (sym f), ap (λ (b : Bool). cond b (fronted (place_words answer.decision.place) place) place) (sym f))

  -- they are asked, and s is their situation
  module _ (asked : is_place_asked ws (length place) ≡ true) (s : Situation) (same : s ≡ situation_of ws) where
    abbrev a : Answer
    a = answer_of s xs ys

    known : a ≡ answer
    known = ap (λ (u : Situation). answer_of u xs ys) same

    number_told : placed_number a ≡ place_number ws xs ys (length place)
    unfolding place_number
    number_told = ap placed_number known ∙ ap (λ (b : Bool). cond b (placed_number answer) (minus 100)) (sym asked)

    after_told : fronted (place_words a.decision.place) place ≡ place_after ws xs ys place
    unfolding place_after
    after_told = ap (λ (z : Answer). fronted (place_words z.decision.place) place) known ∙ ap (λ (b : Bool). cond b (fronted (place_words answer.decision.place) place) place) (sym asked)

    -- the situation is refused: the decision beside it has no place
    pub place_refused : (own : Refusal) → Err own ≡ answered a → (minus (number_of own) ≡ place_number ws xs ys (length place)) × (place ≡ place_after ws xs ys place)
    unfolding fronted
    place_refused own e =
        let h = (refused_by a.refusal a.decision own e).0 in (
          ap minus (answered_number s xs ys own e) ∙ ap (λ (b : Bool). cond b (pos (place_count a.decision.place)) (minus a.refusal)) (sym (ne_eqb a.refusal 0 h)) ∙ number_told,
          sym (ap (λ (l : List ℕ). fronted l place) (no_words s xs ys h)) ∙ after_told,
        )

    -- it is decided, and its place is written
    pub place_written : (d : Decision) → Ok d ≡ answered a → (n : ℤ) (next : List ℕ) → n ≡ pos (place_count d.place) → next ≡ fronted (place_words d.place) place
        → (n ≡ place_number ws xs ys (length place)) × (next ≡ place_after ws xs ys place)
    place_written d e n next en ep =
        let known_d = not_refused a.refusal a.decision d e in (
          en ∙ ap (λ (z : Decision). pos (place_count z.place)) known_d.1 ∙ ap (λ (b : Bool). cond b (pos (place_count a.decision.place)) (minus a.refusal)) (sym (eq-eqb a.refusal 0 known_d.0)) ∙ number_told,
          ep ∙ ap (λ (z : Decision). fronted (place_words z.place) place) known_d.1 ∙ after_told,
        )
