-- The lengths of an array of one value, whose front is lent, while it is lent and after. Assumes nothing.
use mathlib.Core.Path.{◌≡◌, sym}
use mathlib.Core.List.{List, ◌++◌}
use Prim.Native.Nat.{ℕ, ◌≤◌}
use native.Mathlib.Omega.{arith}
use lib.ListN.{length, take, drop, replicate, length-append, length-drop, length-replicate}
use lib.Seq.{length-take-le}

module _ {A : Type 0} (n : ℕ) (a : A) (k : ℕ) (within : k ≤ n) where
  -- the front of k elements
  pub front_long : k ≡ length (take k (replicate n a))
  front_long = sym (length-take-le k (replicate n a) (omega (arith, length-replicate n a)))

  -- the whole, with ys in place of the front
  pub whole_long : (ys : List A) → length ys ≡ length (take k (replicate n a)) → n ≡ length (ys ++ drop k (replicate n a))
  whole_long ys e =
      omega (arith, e, front_long, length-append ys (drop k (replicate n a)), length-drop k (replicate n a), length-replicate n a)
