-- What the count of a front means: each place below it holds, and the place at it does not. Assumes nothing.
use mathlib.Core.Path.{◌≡◌, refl, sym, ap, ◌∙◌}
use mathlib.Core.Bool.{Bool, true, false, ◌&&◌, cond, true≢false}
use mathlib.Core.Logic.{◌⊎◌, inl, inr}
use mathlib.Core.List.{List}
use Prim.Native.Nat.{ℕ, zero, suc, ◌+◌, ◌≤◌, ◌<◌, min}
use native.Mathlib.Nat.{le_antisymm, le_refl, eq-or-lt_of_le, not-suc-le-zero}
use native.Mathlib.Omega.{arith}
use lib.Dec.{eqb, ltb}
use lib.ListN.{length}
use borrow.Author.Tests.{eq-eqb, eqb-true, ltb-true, ltb-false}
use Rattle.lists.specs.Every.{every_to}
use Rattle.lists.proofs.Every.{every_at}
use Rattle.lists.proofs.Bools.{both_true}
use Rattle.columns.specs.Layout.{word_count, columns}
use Rattle.columns.specs.Columns.{in_column, grown, front_to, front_within, words_within}
use Rattle.columns.proofs.Laid.{columns_count}

-- what a turn makes of a count that is at most n: all of n and one more, or as it was
data Turn (k n : ℕ) (b : Bool) : ℕ → Type 0 where
  more : k ≡ n → b ≡ true → Turn k n b (n + 1)
  kept : (eqb k n && b ≡ false) → Turn k n b k

turned : (k n : ℕ) (b : Bool) → Turn k n b (grown k n b)
turned k n b = go (eqb k n && b) refl
  where
    go : (t : Bool) → (eqb k n && b) ≡ t → Turn k n b (cond t (n + 1) k)
    go true e = more (eqb-true k n (both_true (eqb k n) b e).0) (both_true (eqb k n) b e).1
    go false e = kept e

-- the count is at most n
pub front_le : (n : ℕ) (P : ℕ → Bool) → front_to n P ≤ n
unfolding front_to
front_le zero P = le_refl 0
front_le (suc n) P = go (grown (front_to n P) n (P n)) (turned (front_to n P) n (P n)) (front_le n P)
  where
    go : (m : ℕ) → Turn (front_to n P) n (P n) m → front_to n P ≤ n → m ≤ suc n
    go m (more e p) h = omega arith
    go m (kept e) h = omega arith

-- each place below it holds
pub front_holds : (n : ℕ) (P : ℕ → Bool) (k : ℕ) → k < front_to n P → P k ≡ true
unfolding front_to
front_holds zero P k h = absurd (not-suc-le-zero h)
front_holds (suc n) P k h = go (grown (front_to n P) n (P n)) (turned (front_to n P) n (P n)) h (front_holds n P k)
  where
    at_n : P n ≡ true → (k ≡ n) ⊎ (k < n) → (k < n → P k ≡ true) → P k ≡ true
    at_n p (inl g) ih = ap P g ∙ p
    at_n p (inr g) ih = ih g

    go : (m : ℕ) → Turn (front_to n P) n (P n) m → k < m → (k < front_to n P → P k ≡ true) → P k ≡ true
    go m (more e p) l ih = at_n p (eq-or-lt_of_le (omega arith)) (λ g. ih (omega arith))
    go m (kept e) l ih = ih l

-- the place at it does not, where it is below n
pub front_stops : (n : ℕ) (P : ℕ → Bool) → front_to n P < n → P (front_to n P) ≡ false
unfolding front_to
front_stops zero P h = absurd (not-suc-le-zero h)
front_stops (suc n) P h = go (grown (front_to n P) n (P n)) (turned (front_to n P) n (P n)) h (front_le n P) (front_stops n P)
  where
    here : (eqb (front_to n P) n && P n) ≡ false → front_to n P ≡ n → P (front_to n P) ≡ false
    here e g = ap P g ∙ sym (ap (λ (t : Bool). t && P n) (eq-eqb (front_to n P) n g)) ∙ e

    at_n : (eqb (front_to n P) n && P n) ≡ false → (front_to n P ≡ n) ⊎ (front_to n P < n) → (front_to n P < n → P (front_to n P) ≡ false) → P (front_to n P) ≡ false
    at_n e (inl g) ih = here e g
    at_n e (inr g) ih = ih g

    go : (m : ℕ) → Turn (front_to n P) n (P n) m → m < suc n → front_to n P ≤ n → (front_to n P < n → P (front_to n P) ≡ false) → P m ≡ false
    go m (more e p) l b ih = absurd (omega arith)
    go m (kept e) l b ih = at_n e (eq-or-lt_of_le b) ih

-- it is n where all hold
pub whole_front : (n : ℕ) (P : ℕ → Bool) → every_to n P ≡ true → front_to n P ≡ n
whole_front n P e = go (eq-or-lt_of_le (front_le n P))
  where
    go : (front_to n P ≡ n) ⊎ (front_to n P < n) → front_to n P ≡ n
    go (inl g) = g
    go (inr g) = absurd (true≢false (sym (every_at n P e (front_to n P) g) ∙ front_stops n P g))

-- it is i where all below i hold and i does not
pub front_here : (n : ℕ) (P : ℕ → Bool) (i : ℕ) → i < n → every_to i P ≡ true → P i ≡ false → i ≡ front_to n P
front_here n P i h e f = go (ltb i (front_to n P)) refl (ltb (front_to n P) i) refl
  where
    go : (a : Bool) → ltb i (front_to n P) ≡ a → (b : Bool) → ltb (front_to n P) i ≡ b → i ≡ front_to n P
    go true ea b eb = absurd (true≢false (sym (front_holds n P i (ltb-true i (front_to n P) ea)) ∙ f))
    go false ea true eb = let low = ltb-true (front_to n P) i eb in absurd (true≢false (sym (every_at i P e (front_to n P) low) ∙ front_stops n P (omega arith)))
    go false ea false eb = le_antisymm (ltb-false (front_to n P) i eb) (ltb-false i (front_to n P) ea)

-- no more words are within than a situation has
pub most_within : (ws : List ℕ) → words_within ws ≤ word_count
unfolding front_within words_within
most_within ws = let most = front_le (min (length ws) (length columns)) (in_column columns ws) in omega (arith, most, columns_count)
