-- What a slice holds after its part from a place on was lent to a writer, which wrote l at the part's front and kept the rest. Assumes nothing.
use mathlib.Core.Path.{◌≡◌}
use mathlib.Core.List.{List, ◌++◌, append-nil}
use Prim.Native.Nat.{ℕ, ◌+◌, ◌-◌, ◌≤◌}
use native.Mathlib.Omega.{arith}
use lib.ListN.{length, take, drop, length-drop, drop_of_length-le}
use lib.Seq.{take_all, drop-drop}

module _ {A : Type 0} where
  pub part_back : (xs l ys : List A) (at n : ℕ) → ys ≡ l ++ drop n (take (length xs - at) (drop at xs)) → take at xs ++ (ys ++ drop (length xs - at) (drop at xs)) ≡ take at xs ++ (l ++ drop (at + n) xs)
  part_back xs l ys at n e =
      let long : length (drop at xs) ≤ length xs - at = omega (arith, length-drop at xs) in
      simp (e, drop_of_length-le (drop at xs) long, append-nil, take_all (length xs - at) (drop at xs) long, drop-drop)
