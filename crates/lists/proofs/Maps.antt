-- Tables and parts whose elements go through a function, and a table's last element. Assumes nothing.
use mathlib.Core.Path.{◌≡◌, refl, sym, ap, ◌∙◌}
use mathlib.Core.List.{List, [], ◌∷◌, ◌++◌, map, map-append}
use Prim.Native.Nat.{ℕ, zero, suc}
use Rattle.lists.specs.Gather.{flat_to}
use Rattle.lists.specs.Table.{table}

module _ {A B : Type 0} (g : A → B) where
  -- parts
  pub flat_map : (n : ℕ) (f : ℕ → List A) → flat_to n (λ k. map g (f k)) ≡ map g (flat_to n f)
  unfolding flat_to
  flat_map zero f = refl
  flat_map (suc n) f = ap (λ (l : List B). l ++ map g (f n)) (flat_map n f) ∙ sym (map-append g (flat_to n f) (f n))

  -- a table
  pub table_map : (n : ℕ) (f : ℕ → A) → table n (λ k. g (f k)) ≡ map g (table n f)
  table_map zero f = refl
  table_map (suc n) f = ap (λ (l : List B). g (f 0) ∷ l) (table_map n (λ k. f (suc k)))

-- a table with one more place has one more element at its end
pub table_last : {A : Type 0} (f : ℕ → A) (n : ℕ) → table (suc n) f ≡ table n f ++ (f n ∷ [])
table_last f zero = refl
table_last {A} f (suc n) = ap (λ (t : List A). f 0 ∷ t) (table_last (λ k. f (suc k)) n)
