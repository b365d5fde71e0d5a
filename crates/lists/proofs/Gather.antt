-- What a loop that appends a part at each turn keeps: after i turns the list is `flat_to i f`. And the length of parts of one width. Assumes nothing.
use mathlib.Core.Path.{◌≡◌, refl, sym, ap, ap₂, subst, ◌∙◌}
use mathlib.Core.List.{List, [], ◌++◌, append_assoc, append-nil}
use mathlib.Core.Logic.{◌⊎◌, inl, inr, ⊎_elim}
use Prim.Native.Nat.{ℕ, zero, suc, ◌+◌, ◌*◌, ◌≤◌, ◌<◌}
use native.Mathlib.Nat.{mul-zero, mul-suc, le_antisymm, le_refl, le_step, eq-or-lt_of_le, le_of_suc-le-suc}
use native.Mathlib.Numerals.{add-one}
use native.Mathlib.Omega.{arith}
use lib.ListN.{length, length-append}
use Rattle.lists.specs.Gather.{flat_to}

module _ {A : Type 0} where
  -- ---- a loop that appends f i, which may be empty, at each turn
  pub gather_turn : (f : ℕ → List A) (a acc next : List A) (i : ℕ) → acc ≡ a ++ flat_to i f → next ≡ acc ++ f i → next ≡ a ++ flat_to (i + 1) f
  unfolding flat_to
  gather_turn f a acc next i e p =
      p ∙ ap (λ (l : List A). l ++ f i) e ∙ append_assoc a (flat_to i f) (f i) ∙ ap (λ (k : ℕ). a ++ flat_to k f) (sym (add-one i))

  pub gather_done : (f : ℕ → List A) (a acc : List A) (i n : ℕ) → i ≤ n → n ≤ i → acc ≡ a ++ flat_to i f → acc ≡ a ++ flat_to n f
  gather_done f a acc i n p q e = e ∙ ap (λ (k : ℕ). a ++ flat_to k f) (le_antisymm p q)

  -- ---- parts
  -- parts that agree below n give one list
  pub flat_same : (n : ℕ) (f g : ℕ → List A) → ((k : ℕ) → k < n → f k ≡ g k) → flat_to n f ≡ flat_to n g
  unfolding flat_to
  flat_same zero f g e = refl
  flat_same (suc n) f g e = ap₂ (λ (a b : List A). a ++ b) (flat_same n f g (λ k h. e k (le_step h))) (e n (le_refl (suc n)))

  -- parts that are empty add nothing
  pub flat_quiet : (f : ℕ → List A) (k n : ℕ) → k ≤ n → ((i : ℕ) → k ≤ i → i < n → f i ≡ []) → flat_to n f ≡ flat_to k f
  flat_quiet f k zero h e = ap (λ (z : ℕ). flat_to z f) (omega arith)
  flat_quiet f k (suc n) h e = go (eq-or-lt_of_le h) (flat_quiet f k n)
    where
      grow : flat_to (suc n) f ≡ flat_to n f ++ f n
      grow = unfold flat_to in refl

      go : (k ≡ suc n) ⊎ (k < suc n) → (k ≤ n → ((i : ℕ) → k ≤ i → i < n → f i ≡ []) → flat_to n f ≡ flat_to k f) → flat_to (suc n) f ≡ flat_to k f
      go (inl g) ih = ap (λ (z : ℕ). flat_to z f) (sym g)
      go (inr g) ih = grow ∙ ap (λ (l : List A). flat_to n f ++ l) (e n (le_of_suc-le-suc g) (le_refl (suc n))) ∙ append-nil (flat_to n f) ∙ ih (le_of_suc-le-suc g) (λ i a b. e i a (le_step b))

  -- the parts up to one are no longer than all
  pub flat_le : (f : ℕ → List A) (i n : ℕ) → i < n → length (flat_to i f) + length (f i) ≤ length (flat_to n f)
  unfolding flat_to
  flat_le f i zero h = absurd (omega arith)
  flat_le f i (suc n) h =
      ⊎_elim
      (λ (e : i ≡ n). subst (λ (k : ℕ). length (flat_to i f) + length (f i) ≤ length (flat_to k f ++ f k)) e (omega (arith, length-append (flat_to i f) (f i))))
      (λ (l : i < n). omega (arith, flat_le f i n l, length-append (flat_to n f) (f n)))
      (eq-or-lt_of_le (le_of_suc-le-suc h))

  -- ---- parts of one width
  module _ (f : ℕ → List A) (w : ℕ) (wide : (k : ℕ) → length (f k) ≡ w) where
    pub length_flat : (n : ℕ) → length (flat_to n f) ≡ w * n
    unfolding flat_to
    length_flat zero = sym (mul-zero w)
    length_flat (suc n) = length-append (flat_to n f) (f n) ∙ ap₂ (λ (j k : ℕ). j + k) (length_flat n) (wide n) ∙ sym (mul-suc w n)
