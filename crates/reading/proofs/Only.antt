-- Laws of `only`, `every` and `each_next`, for any tests. Assumes nothing.
use mathlib.Core.Path.{◌≡◌, refl, sym, ap, ap₂, ◌∙◌}
use mathlib.Core.Bool.{Bool, true, false, true≢false}
use mathlib.Core.List.{List, [], ◌∷◌, ◌++◌}
use Prim.Native.Nat.{ℕ, ◌<◌}
use native.Mathlib.Omega.{arith}
use borrow.Author.Tests.{leb-true, le-leb, ne_eqb}
use lib.Dec.{eqb, leb}
use Rattle.lists.specs.Gather.{only_if}
use Rattle.lists.proofs.Bools.{both, both_true, by_test}
use Rattle.lines.specs.declared.Row.{Row}
use Rattle.reading.specs.Rules.{only, every, each_next}

-- ---- only
-- a line that passes is kept
pub only_yes : (p : Row → Bool) (r : Row) (rs : List Row) → p r ≡ true → only p (r ∷ rs) ≡ r ∷ only p rs
unfolding only
only_yes p r rs e = ap (λ (b : Bool). only_if b r ++ only p rs) e

-- and one that does not is left out
pub only_no : (p : Row → Bool) (r : Row) (rs : List Row) → p r ≡ false → only p (r ∷ rs) ≡ only p rs
unfolding only
only_no p r rs e = ap (λ (b : Bool). only_if b r ++ only p rs) e

-- tests that agree on the lines of a list
pub only_same : (p q i : Row → Bool) → ((r : Row) → i r ≡ true → p r ≡ q r) → (rs : List Row) → every i rs ≡ true → only p rs ≡ only q rs
unfolding only every
only_same p q i h [] e = refl
only_same p q i h (r ∷ rs) e =
    let b = both_true (i r) (every i rs) e in
    ap₂ (λ (t : Bool) (l : List Row). only_if t r ++ l) (h r b.0) (only_same p q i h rs b.1)

-- a test that implies another finds all its lines among those of the other
pub only_among : (p q : Row → Bool) → ((r : Row) → p r ≡ true → q r ≡ true) → (rs : List Row) → only p (only q rs) ≡ only p rs
unfolding only
only_among p q h [] = refl
only_among p q h (r ∷ rs) = go (p r) (q r) refl refl (only_among p q h rs)
  where
    go : (a b : Bool) → p r ≡ a → q r ≡ b → only p (only q rs) ≡ only p rs → only p (only_if (q r) r ++ only q rs) ≡ only_if (p r) r ++ only p rs
    go a true ea eb ih = ap (λ (x : Bool). only p (only_if x r ++ only q rs)) eb ∙ ap (λ (l : List Row). only_if (p r) r ++ l) ih
    go true false ea eb ih = absurd (true≢false (sym (h r ea) ∙ eb))
    go false false ea eb ih = ap (λ (x : Bool). only p (only_if x r ++ only q rs)) eb ∙ ih ∙ ap (λ (x : Bool). only_if x r ++ only p rs) (sym ea)

-- ---- every
pub every_split : (p : Row → Bool) (r : Row) (rs : List Row) → every p (r ∷ rs) ≡ true → (p r ≡ true) × (every p rs ≡ true)
unfolding every
every_split p r rs e = both_true (p r) (every p rs) e

pub every_join : (p : Row → Bool) (r : Row) (rs : List Row) → p r ≡ true → every p rs ≡ true → every p (r ∷ rs) ≡ true
unfolding every
every_join p r rs a b = both (p r) (every p rs) a b

-- what follows from a property of the lines and from the test holds of those that are kept
pub every_only : (p q i : Row → Bool) → ((r : Row) → i r ≡ true → p r ≡ true → q r ≡ true) → (rs : List Row) → every i rs ≡ true → every q (only p rs) ≡ true
every_only p q i h [] e = unfold only every in refl
every_only p q i h (r ∷ rs) e =
    let b = every_split i r rs e in
    by_test (p r)
    (λ (y : p r ≡ true). ap (every q) (only_yes p r rs y) ∙ every_join q r (only p rs) (h r b.0 y) (every_only p q i h rs b.1))
    (λ (n : p r ≡ false). ap (every q) (only_no p r rs n) ∙ every_only p q i h rs b.1)

-- ---- each line and the next
pub next_split : (p : Row → Row → Bool) (l r : Row) (rs : List Row) → each_next p l (r ∷ rs) ≡ true → (p l r ≡ true) × (each_next p r rs ≡ true)
unfolding each_next
next_split p l r rs e = both_true (p l r) (each_next p r rs) e

pub next_join : (p : Row → Row → Bool) (l r : Row) (rs : List Row) → p l r ≡ true → each_next p r rs ≡ true → each_next p l (r ∷ rs) ≡ true
unfolding each_next
next_join p l r rs a b = both (p l r) (each_next p r rs) a b

-- a relation that implies another
pub next_imply : (p q : Row → Row → Bool) → ((l r : Row) → p l r ≡ true → q l r ≡ true) → (l : Row) (rs : List Row) → each_next p l rs ≡ true → each_next q l rs ≡ true
next_imply p q h l [] e = unfold each_next in refl
next_imply p q h l (r ∷ rs) e =
    let b = next_split p l r rs e in
    next_join q l r rs (h l r b.0) (next_imply p q h r rs b.1)

-- ---- a number of the lines that never falls
abbrev pub up_by : (Row → ℕ) → Row → Row → Bool
up_by f l r = leb (f l) (f r)

-- it does not fall where a line is left out
up_skip : (f : Row → ℕ) (l r : Row) (rs : List Row) → each_next (up_by f) l (r ∷ rs) ≡ true → each_next (up_by f) l rs ≡ true
up_skip f l r [] e = unfold each_next in refl
up_skip f l r (t ∷ rs) e =
    let a = next_split (up_by f) l r (t ∷ rs) e in
    let b = next_split (up_by f) r t rs a.1 in
    next_join (up_by f) l t rs (le-leb (f l) (f t) (omega (arith, leb-true (f l) (f r) a.0, leb-true (f r) (f t) b.0))) b.1

-- and so in what is kept
pub up_only : (f : Row → ℕ) (p : Row → Bool) (l : Row) (rs : List Row) → each_next (up_by f) l rs ≡ true → each_next (up_by f) l (only p rs) ≡ true
up_only f p l [] e = unfold only each_next in refl
up_only f p l (r ∷ rs) e =
    let b = next_split (up_by f) l r rs e in
    by_test (p r)
    (λ (y : p r ≡ true). ap (each_next (up_by f) l) (only_yes p r rs y) ∙ next_join (up_by f) l r (only p rs) b.0 (up_only f p r rs b.1))
    (λ (n : p r ≡ false). ap (each_next (up_by f) l) (only_no p r rs n) ∙ up_only f p l rs (up_skip f l r rs e))

-- no line from r on has a number that is lower than that of r
pub none_below : (f : Row → ℕ) (n : ℕ) (r : Row) (rs : List Row) → each_next (up_by f) r rs ≡ true → n < f r → only (λ t. eqb (f t) n) (r ∷ rs) ≡ []
none_below f n r rs e h = only_no (λ t. eqb (f t) n) r rs (ne_eqb (f r) n (λ g. omega arith)) ∙ rest rs e
  where
    rest : (ts : List Row) → each_next (up_by f) r ts ≡ true → only (λ t. eqb (f t) n) ts ≡ []
    rest [] d = unfold only in refl
    rest (t ∷ ts) d =
        only_no (λ u. eqb (f u) n) t ts (ne_eqb (f t) n (λ g. omega (arith, leb-true (f r) (f t) (next_split (up_by f) r t ts d).0)))
        ∙ rest ts (up_skip f r t ts d)
