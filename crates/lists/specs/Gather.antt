-- Parts one after the other, f 0 ++ f 1 ++ .. ++ f (n - 1). Definitions only.
use Rattle.std.specs.Prelude.{Bool, true, false, List, [], ◌∷◌, ◌++◌, ℕ, zero, suc}

module _ {A : Type 0} where
  unfoldable pub flat_to : ℕ → (ℕ → List A) → List A
  flat_to zero f = []
  flat_to (suc n) f = flat_to n f ++ f n

  -- x alone, or nothing
  abbrev pub only_if : Bool → A → List A
  only_if true x = x ∷ []
  only_if false x = []
