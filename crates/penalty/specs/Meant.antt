-- What is meant by the candidate that is chosen, for the list of candidates and their places in it from 0. Definitions only: `Chosen` is proved of `chosen`, which goes through the list once.
use Rattle.std.specs.Prelude.{◌≡◌, true, false, List, ℕ, ◌<◌, length, get_or, Float}
use Prim.Native.Nat.{Ordering}
use Rattle.std.specs.Float.{nan}
use Rattle.std.specs.Float.Ieee.{le}
use Rattle.floats.specs.Leaves.{total_order}
use Rattle.penalty.specs.Penalty.{not_below}

-- the candidate at the place i
abbrev pub candidate : List Float → ℕ → Float
candidate l i = get_or l i nan

-- x is at the place i of l
pub record IsAt (l : List Float) (i : ℕ) (x : Float) : Type 0 where
  pub inside : i < length l
  pub there : candidate l i ≡ x

-- x, at the place i, is the first whose clearance reaches the distance: it does, and none before it does
pub record FirstReaching (d : Float) (clear : Float → Float) (l : List Float) (x : Float) : Type 0 where
  pub i : ℕ
  pub at : IsAt l i x
  pub reaches : le d (clear x) ≡ true
  pub first : (j : ℕ) → j < i → le d (clear (candidate l j)) ≡ false

-- no clearance reaches the distance
abbrev pub NoneReaches : Float → (Float → Float) → List Float → Type 0
NoneReaches d clear l = (j : ℕ) → j < length l → le d (clear (candidate l j)) ≡ false

-- x, at the place i, is the last of those with greatest clearance: by total order no candidate has a greater one, and every later one has less
pub record LastGreatest (clear : Float → Float) (l : List Float) (x : Float) : Type 0 where
  pub i : ℕ
  pub at : IsAt l i x
  pub greatest : (j : ℕ) → j < length l → not_below (total_order (clear x) (clear (candidate l j))) ≡ true
  pub last : (j : ℕ) → i < j → j < length l → total_order (clear (candidate l j)) (clear x) ≡ Ordering.lt

-- x is chosen: the first that reaches the distance, or the last of those with greatest clearance where none reaches it
pub data Chosen (d : Float) (clear : Float → Float) (l : List Float) (x : Float) : Type 0 where
  by_distance : FirstReaching d clear l x → Chosen d clear l x
  by_clearance : NoneReaches d clear l → LastGreatest clear l x → Chosen d clear l x
