-- Where a number stands, by the tests of the code, and a line from its pieces. Assumes nothing.
use mathlib.Core.Path.{◌≡◌, refl, sym, ap, ap₂, ◌∙◌}
use mathlib.Core.Bool.{Bool, true, false}
use mathlib.Core.Logic.{◌⊎◌, inl, inr}
use mathlib.Core.List.{List, [], ◌∷◌, ◌++◌, append_assoc}
use Prim.Native.Nat.{ℕ, ◌+◌, ◌-◌, ◌≤◌, ◌<◌}
use native.Mathlib.Nat.{eq-or-lt_of_le}
use native.Mathlib.Omega.{arith}
use borrow.Author.Tests.{lt-ltb, le-ltb, lt-leb, le-leb, eq-eqb, ne_eqb, leb-true, leb-false}
use lib.Dec.{leb}
use lib.ListN.{get_or}
use Rattle.columns.specs.Layout.{word_count}
use Rattle.input.specs.declared.Fault.{Fault}
use Rattle.input.specs.declared.Fault.TheVariants.{NotANumber, TooLarge, Outside, LongList, Missing, Extra}
use Rattle.input.specs.Input.{count_x, count_y}
use Rattle.input.proofs.Faults.{is_told, Known}
use Rattle.text.specs.Decimal.{decimal_of}
use Rattle.replies.specs.Replies.{word_word, open_bracket, close_bracket, number_of_x, earlier_x, number_of_y, earlier_y, label_of, word_text, place_at, place_text, colon, fault_text, fault_line}

-- ---- where a number stands
module _ (nx i : ℕ) where
  pub in_words : i < word_count → (((word_word ++ decimal_of i) ++ open_bracket) ++ label_of i) ++ close_bracket ≡ place_at nx i
  unfolding place_at word_text
  in_words h = simp (lt-ltb i word_count h, append_assoc)

  module _ (past : word_count ≤ i) where
    pub at_count_x : i ≡ word_count → number_of_x ≡ place_at nx i
    unfolding place_at
    at_count_x e = simp (le-ltb i word_count past, eq-eqb i word_count e)

    module _ (other : i ≡ word_count → ⊥) where
      pub in_x : i ≤ word_count + nx → earlier_x ++ decimal_of (i - word_count) ≡ place_at nx i
      unfolding place_at
      in_x h = simp (le-ltb i word_count past, ne_eqb i word_count other, le-leb i (word_count + nx) h)

      module _ (after : word_count + nx < i) where
        pub at_count_y : i ≡ word_count + nx + 1 → number_of_y ≡ place_at nx i
        unfolding place_at
        at_count_y e = simp (le-ltb i word_count past, ne_eqb i word_count other, lt-leb i (word_count + nx) after, eq-eqb i (count_y nx) (omega arith))

        pub in_y : (i ≡ word_count + nx + 1 → ⊥) → earlier_y ++ decimal_of (i - (word_count + nx + 1)) ≡ place_at nx i
        unfolding place_at
        in_y h =
            let same : word_count + nx + 1 ≡ count_y nx = omega arith in
            simp (le-ltb i word_count past, ne_eqb i word_count other, lt-leb i (word_count + nx) after, ne_eqb i (count_y nx) (λ e. h (e ∙ sym same)))
            (ap (λ (k : ℕ). earlier_y ++ decimal_of (i - k)) same)

-- ---- the line
pub line_told : (ns : List ℕ) (i nx number : ℕ) (fault : Fault) → nx ≡ get_or ns word_count 0 → number ≡ get_or ns i 0
    → ((place_at nx i ++ colon) ++ fault_text fault number) ++ (10 ∷ []) ≡ fault_line ns i fault
unfolding fault_line place_text
line_told ns i nx number fault e f = simp (e, f, append_assoc)

-- what is told of a number that is not told is the same for every number
untold : (fault : Fault) (m n : ℕ) → (is_told fault ≡ true → m ≡ n) → fault_text fault m ≡ fault_text fault n
untold NotANumber m n e = refl
untold TooLarge m n e = refl
untold Outside m n e = ap (fault_text Outside) (e refl)
untold LongList m n e = ap (fault_text LongList) (e refl)
untold Missing m n e = refl
untold Extra m n e = refl

-- up to the number of earlier x the place does not hang on it
same_place : (m n i : ℕ) → (count_x < i → m ≡ n) → place_at m i ≡ place_at n i
same_place m n i e = go (leb i count_x) refl
  where
    go : (b : Bool) → leb i count_x ≡ b → place_at m i ≡ place_at n i
    go false h = ap (λ (k : ℕ). place_at k i) (e (leb-false i count_x h))
    go true h = low (eq-or-lt_of_le (leb-true i count_x h))
      where
        low : (i ≡ count_x) ⊎ (i < count_x) → place_at m i ≡ place_at n i
        low (inl same) = sym (at_count_x m i (omega arith) same) ∙ at_count_x n i (omega arith) same
        low (inr less) = sym (in_words m i less) ∙ in_words n i less

-- the line by stored numbers is that by the numbers of the text
pub line_known : (ms ns : List ℕ) (i : ℕ) (fault : Fault) → Known ms ns i fault → fault_line ms i fault ≡ fault_line ns i fault
unfolding fault_line place_text
line_known ms ns i fault known =
    ap₂ (λ (p t : List ℕ). p ++ (colon ++ (t ++ (10 ∷ [])))) (same_place (get_or ms count_x 0) (get_or ns count_x 0) i known.count) (untold fault (get_or ms i 0) (get_or ns i 0) known.value)
