-- How long a list is by the lengths of its parts. Assumes nothing.
use mathlib.Core.Path.{◌≡◌, refl, sym}
use mathlib.Core.Bool.{Bool, true, false, ◌||◌, true≢false}
use mathlib.Core.List.{List, [], ◌∷◌, ◌++◌}
use Prim.Native.Nat.{ℕ, ◌+◌, ◌≤◌}
use native.Mathlib.Omega.{arith}
use lib.ListN.{length}
use Rattle.lists.specs.Gather.{only_if}
use Rattle.lists.proofs.Bools.{both_true}
use Rattle.lines.specs.declared.Row.{Row}
use Rattle.reading.specs.Rules.{only, every}
use Rattle.reading.proofs.All.{All, no_more, one_more}

-- ---- every line
-- from the test on each of them
pub every_all : (p : Row → Bool) (rs : List Row) → every p rs ≡ true → All (λ r. p r ≡ true) rs
unfolding every
every_all p [] e = no_more
every_all p (r ∷ rs) e = let b = both_true (p r) (every p rs) e in one_more b.0 (every_all p rs b.1)

-- ---- lengths of parts
-- some part has the line
abbrev pub in_some : List (Row → Bool) → Row → Bool
in_some [] r = false
in_some (p ∷ ps) r = p r || in_some ps r

-- the parts' lengths together
abbrev pub lengths : List (Row → Bool) → List Row → ℕ
lengths [] rs = 0
lengths (p ∷ ps) rs = length (only p rs) + lengths ps rs

one_part : (p : Row → Bool) (r : Row) (rs : List Row) → length (only p rs) ≤ length (only p (r ∷ rs))
unfolding only
one_part p r rs = go (p r)
  where
    go : (b : Bool) → length (only p rs) ≤ length (only_if b r ++ only p rs)
    go true = omega arith
    go false = omega arith

its_part : (p : Row → Bool) (r : Row) (rs : List Row) → p r ≡ true → length (only p rs) + 1 ≤ length (only p (r ∷ rs))
unfolding only
its_part p r rs e = go (p r) e
  where
    go : (b : Bool) → b ≡ true → length (only p rs) + 1 ≤ length (only_if b r ++ only p rs)
    go true e = omega arith
    go false e = absurd (true≢false (sym e))

no_shorter : (ps : List (Row → Bool)) (r : Row) (rs : List Row) → lengths ps rs ≤ lengths ps (r ∷ rs)
no_shorter [] r rs = omega arith
no_shorter (p ∷ ps) r rs = omega (arith, one_part p r rs, no_shorter ps r rs)

longer : (ps : List (Row → Bool)) (r : Row) (rs : List Row) → in_some ps r ≡ true → lengths ps rs + 1 ≤ lengths ps (r ∷ rs)
longer [] r rs e = absurd (true≢false (sym e))
longer (p ∷ ps) r rs e = go (p r) refl e (longer ps r rs)
  where
    go : (b : Bool) → p r ≡ b → (b || in_some ps r) ≡ true → (in_some ps r ≡ true → lengths ps rs + 1 ≤ lengths ps (r ∷ rs)) → lengths (p ∷ ps) rs + 1 ≤ lengths (p ∷ ps) (r ∷ rs)
    go true h e rest = omega (arith, its_part p r rs h, no_shorter ps r rs)
    go false h e rest = omega (arith, one_part p r rs, rest e)

-- lines that are each in some part are no more than the parts' lengths together
pub by_parts : (ps : List (Row → Bool)) {rs : List Row} → All (λ r. in_some ps r ≡ true) rs → length rs ≤ lengths ps rs
by_parts ps no_more = omega arith
by_parts ps (one_more {x = r} {l = rs} h a) = omega (arith, by_parts ps a, longer ps r rs h)
