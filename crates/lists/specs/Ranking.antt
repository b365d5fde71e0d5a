-- The places below n that pass a test, in an order. Definitions only.
use Rattle.std.specs.Prelude.{Bool, true, false, ◌&&◌}
use Prim.Native.Nat.{ℕ, Ordering}
use Rattle.std.proofs.Math.Dec.{eqb}
use Rattle.lists.specs.Counting.{count_to, first_to}

-- a first comparison, and where it is even a second one
abbrev pub and_then : Ordering → Ordering → Ordering
and_then Ordering.lt o = Ordering.lt
and_then Ordering.eq o = o
and_then Ordering.gt o = Ordering.gt

-- the first of the two comes first
abbrev pub is_less : Ordering → Bool
is_less Ordering.lt = true
is_less Ordering.eq = false
is_less Ordering.gt = false

-- p is the test, and `before i j` says that i comes before j
module _ (n : ℕ) (p : ℕ → Bool) (before : ℕ → ℕ → Bool) where
  -- how many of those that pass come before i
  unfoldable pub rank : ℕ → ℕ
  unfolding count_to
  rank i = count_to n (λ j. p j && before j i)

  -- the one that passes and before which exactly k others that pass come; n where there is none
  unfoldable pub ranked : ℕ → ℕ
  unfolding rank first_to
  ranked k = first_to n (λ i. p i && eqb (rank i) k)
