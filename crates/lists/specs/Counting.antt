-- The places 0, .., n - 1 that pass a test: how many there are, and the first of them. Definitions only.
use Rattle.std.specs.Prelude.{Bool, true, false, ℕ, zero, suc}
use Rattle.lists.specs.Put.{count_if}

-- how many places below n pass
unfoldable pub count_to : ℕ → (ℕ → Bool) → ℕ
count_to zero p = 0
count_to (suc n) p = count_if (p n) (count_to n p)

-- 0, or a later place
abbrev pub first_or : Bool → ℕ → ℕ
first_or true k = 0
first_or false k = k

-- the first place below n that passes, n where none does
unfoldable pub first_to : ℕ → (ℕ → Bool) → ℕ
first_to zero p = 0
first_to (suc n) p = first_or (p 0) (suc (first_to n (λ k. p (suc k))))
