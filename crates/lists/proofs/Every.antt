-- What a loop that tests each place keeps: after i turns the answer is `every_to i P`. Assumes nothing.
use mathlib.Core.Path.{◌≡◌, refl, sym, ap, ap₂, ◌∙◌}
use mathlib.Core.Bool.{Bool, true, ◌&&◌}
use Prim.Native.Nat.{ℕ, zero, suc, ◌+◌, ◌≤◌, ◌<◌}
use native.Mathlib.Nat.{le_antisymm, le_refl, le_step, eq-or-lt_of_le, le_of_suc-le-suc, not-suc-le-zero}
use native.Mathlib.Numerals.{add-one}
use mathlib.Core.Logic.{◌⊎◌, inl, inr}
use Rattle.lists.proofs.Bools.{both_true}
use Rattle.lists.specs.Every.{every_to}
pub use Rattle.lists.proofs.Bools.{both_true}

-- before the loop
pub every_none : (P : ℕ → Bool) → true ≡ every_to 0 P
unfolding every_to
every_none P = refl

-- a turn
pub every_turn : (P : ℕ → Bool) (acc next : Bool) (i : ℕ) → acc ≡ every_to i P → next ≡ (acc && P i) → next ≡ every_to (i + 1) P
unfolding every_to
every_turn P acc next i e p = p ∙ ap (λ (a : Bool). a && P i) e ∙ ap (λ (k : ℕ). every_to k P) (sym (add-one i))

-- the loop's end
pub every_done : (P : ℕ → Bool) (acc : Bool) (i n : ℕ) → i ≤ n → n ≤ i → acc ≡ every_to i P → acc ≡ every_to n P
every_done P acc i n a b e = e ∙ ap (λ (k : ℕ). every_to k P) (le_antisymm a b)

-- tests that agree below n
pub every_same : (n : ℕ) (P Q : ℕ → Bool) → ((k : ℕ) → k < n → P k ≡ Q k) → every_to n P ≡ every_to n Q
unfolding every_to
every_same zero P Q e = refl
every_same (suc n) P Q e = ap₂ (λ (a b : Bool). a && b) (every_same n P Q (λ k h. e k (le_step h))) (e n (le_refl (suc n)))

-- what holds everywhere holds at a place
pub every_at : (n : ℕ) (P : ℕ → Bool) → every_to n P ≡ true → (k : ℕ) → k < n → P k ≡ true
unfolding every_to
every_at zero P e k h = absurd (not-suc-le-zero h)
every_at (suc n) P e k h = go (eq-or-lt_of_le (le_of_suc-le-suc h)) (every_at n P (both_true (every_to n P) (P n) e).0 k)
  where
    go : (k ≡ n) ⊎ (k < n) → (k < n → P k ≡ true) → P k ≡ true
    go (inl g) ih = ap P g ∙ (both_true (every_to n P) (P n) e).1
    go (inr g) ih = ih g
