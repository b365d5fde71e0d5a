-- A walk over 0, 1, .., n - 1 that carries a state. Definitions only.
use Rattle.std.specs.Prelude.{ℕ, zero, suc}

module _ {S : Type 0} where
  unfoldable pub fold_to : ℕ → (ℕ → S → S) → S → S
  fold_to zero f s = s
  fold_to (suc n) f s = f n (fold_to n f s)
