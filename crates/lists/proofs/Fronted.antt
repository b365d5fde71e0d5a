-- A list at the front of another that may be too short for it. Assumes nothing.
use mathlib.Core.Path.{◌≡◌}
use mathlib.Core.List.{List}
use Prim.Native.Nat.{◌≤◌, ◌<◌}
use borrow.Author.Tests.{lt-ltb, le-ltb}
use lib.ListN.{length}
use Rattle.lists.specs.Put.{fronted, fronted_into}

module _ {A : Type 0} where
  -- where there is no room
  pub into_short : (l s : List A) → length s < length l → fronted_into l s ≡ s
  unfolding fronted_into
  into_short l s h = simp (lt-ltb (length s) (length l) h)

  -- where there is
  pub into_fits : (l s : List A) → length l ≤ length s → fronted_into l s ≡ fronted l s
  unfolding fronted_into
  into_fits l s h = simp (le-ltb (length s) (length l) h)
