-- A walk that replaces each element of a list by one made of it. Assumes nothing.
use Rattle.std.proofs.Common.{◌≡◌, refl, List, [], ◌∷◌, ℕ, zero, suc, ◌+◌, ◌<◌, length, get_or, set, ap, ◌∙◌, le_of_suc-le-suc, not-suc-le-zero}
use Rattle.lists.specs.Table.{filled}
use Rattle.lists.proofs.Table.{turn}

module _ {A : Type 0} where
  -- the next element is still the one of before
  pub next_at : (f : ℕ → A) (d : List A) (i : ℕ) (x : A) → i < length d → get_or (filled f d i) i x ≡ get_or d i x
  next_at f [] i x l = absurd (not-suc-le-zero l)
  next_at f (y ∷ d) zero x l = refl
  next_at f (y ∷ d) (suc i) x l = next_at (λ k. f (suc k)) d i x (le_of_suc-le-suc l)

  -- a turn stores what is made of it
  pub turn_in_place : (g : A → ℕ → A) (x : A) (d out : List A) (i : ℕ) (v : A) → i < length d → out ≡ filled (λ k. g (get_or d k x) k) d i → v ≡ g (get_or out i x) i → set out i v ≡ filled (λ k. g (get_or d k x) k) d (i + 1)
  turn_in_place g x d out i v l e p =
      let f : ℕ → A = λ k. g (get_or d k x) k in
      turn f d out i v l e (p ∙ ap (λ (a : A). g a i) (ap (λ (s : List A). get_or s i x) e ∙ next_at f d i x l))
