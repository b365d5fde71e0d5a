-- The table of a function f, the list f 0, f 1, .., f (n - 1). Definitions only.
use Rattle.std.specs.Prelude.{List, [], ◌∷◌, ◌++◌, ℕ, zero, suc, drop}

module _ {A : Type 0} where
  abbrev pub table : ℕ → (ℕ → A) → List A
  table zero f = []
  table (suc n) f = f 0 ∷ table n (λ k. f (suc k))

  -- the list d with its first n places filled by f
  abbrev pub filled : (ℕ → A) → List A → ℕ → List A
  filled f d n = table n f ++ drop n d
