-- What a loop that carries a state keeps: after i turns the state is `fold_to i f s`. Assumes nothing.
use mathlib.Core.Path.{◌≡◌, refl, sym, ap, ◌∙◌}
use Prim.Native.Nat.{ℕ, zero, suc, ◌+◌, ◌≤◌, ◌<◌}
use mathlib.Core.Logic.{◌⊎◌, inl, inr}
use native.Mathlib.Nat.{le_antisymm, le_refl, le_step, eq-or-lt_of_le, le_of_suc-le-suc}
use native.Mathlib.Omega.{arith}
use native.Mathlib.Numerals.{add-one}
use Rattle.lists.specs.Fold.{fold_to}

module _ {S : Type 0} where
  -- before the loop
  pub fold_none : (f : ℕ → S → S) (s : S) → s ≡ fold_to 0 f s
  unfolding fold_to
  fold_none f s = refl

  -- a turn
  pub fold_turn : (f : ℕ → S → S) (s acc next : S) (i : ℕ) → acc ≡ fold_to i f s → next ≡ f i acc → next ≡ fold_to (i + 1) f s
  unfolding fold_to
  fold_turn f s acc next i e p = p ∙ ap (f i) e ∙ ap (λ (k : ℕ). fold_to k f s) (sym (add-one i))

  -- the loop's end
  pub fold_done : (f : ℕ → S → S) (s acc : S) (i n : ℕ) → i ≤ n → n ≤ i → acc ≡ fold_to i f s → acc ≡ fold_to n f s
  fold_done f s acc i n a b e = e ∙ ap (λ (k : ℕ). fold_to k f s) (le_antisymm a b)

  -- steps that change nothing from j on
  pub fold_quiet : (f : ℕ → S → S) (s : S) (j n : ℕ) → j ≤ n → ((k : ℕ) → j ≤ k → k < n → f k (fold_to j f s) ≡ fold_to j f s) → fold_to n f s ≡ fold_to j f s
  fold_quiet f s j zero h e = ap (λ (z : ℕ). fold_to z f s) (omega arith)
  fold_quiet f s j (suc n) h e = go (eq-or-lt_of_le h) (fold_quiet f s j n)
    where
      grow : fold_to (suc n) f s ≡ f n (fold_to n f s)
      grow = unfold fold_to in refl

      go : (j ≡ suc n) ⊎ (j < suc n) → (j ≤ n → ((k : ℕ) → j ≤ k → k < n → f k (fold_to j f s) ≡ fold_to j f s) → fold_to n f s ≡ fold_to j f s) → fold_to (suc n) f s ≡ fold_to j f s
      go (inl g) ih = ap (λ (z : ℕ). fold_to z f s) (sym g)
      go (inr g) ih = grow ∙ ap (f n) (ih (le_of_suc-le-suc g) (λ k a b. e k a (le_step b))) ∙ e n (le_of_suc-le-suc g) (le_refl (suc n))
