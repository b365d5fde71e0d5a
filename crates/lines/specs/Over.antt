-- A list with another written over it. Definitions only.
use Rattle.std.specs.Prelude.{List, ◌++◌, ℕ, ◌+◌, length, take, drop}

module _ {A : Type 0} where
  -- s with l written over it from the place at on
  unfoldable pub over : ℕ → List A → List A → List A
  over at l s = take at s ++ (l ++ drop (at + length l) s)
