-- A list with another at its front, and what a store that may be left out does. Definitions only.
use Rattle.std.specs.Prelude.{Bool, true, false, cond, List, ◌++◌, ℕ, ◌+◌, ltb, length, drop, set}

-- one more, or not
abbrev pub count_if : Bool → ℕ → ℕ
count_if true n = n + 1
count_if false n = n

module _ {A : Type 0} where
  -- the front is l, and the rest is still that of s
  unfoldable pub fronted : List A → List A → List A
  fronted l s = l ++ drop (length l) s

  -- l with x at the place n, or unchanged
  abbrev pub put_if : Bool → List A → ℕ → A → List A
  put_if true l n x = set l n x
  put_if false l n x = l

  -- l at the front of s, where s has room for it; else s as it was
  unfoldable pub fronted_into : List A → List A → List A
  fronted_into l s = cond (ltb (length s) (length l)) s (fronted l s)
