-- A test that holds at each of 0, 1, .., n - 1. Definitions only.
use Rattle.std.specs.Prelude.{Bool, true, ◌&&◌, ℕ, zero, suc}

unfoldable pub every_to : ℕ → (ℕ → Bool) → Bool
every_to zero P = true
every_to (suc n) P = every_to n P && P n
