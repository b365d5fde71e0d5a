-- Laws of `only`, `every`, `in_a_row`, `none_twice` and `ranks_from`. Assumes nothing.
use mathlib.Core.Path.{◌≡◌, refl, sym, ap, ◌∙◌}
use mathlib.Core.Bool.{Bool, true, false, not}
use mathlib.Core.List.{List, [], ◌∷◌, ◌++◌, append_assoc}
use Prim.Native.Nat.{ℕ, zero, suc, ◌+◌, ◌≤◌}
use native.Mathlib.Omega.{arith}
use borrow.Author.Tests.{eq-eqb, ne_eqb}
use lib.Dec.{eqb}
use Rattle.lists.specs.Gather.{only_if}
use Rattle.lists.specs.Table.{table}
use Rattle.lists.proofs.Bools.{both}
use Rattle.lines.specs.declared.Row.{Row}
use Rattle.reading.specs.Rules.{only, every, each_next, in_a_row, ranks_from, none_twice}
use Rattle.reading.proofs.All.{All, no_more, one_more, all_so, Distinct, nothing, another, Chain, last, next}

-- ---- the lines with a property
pub only_append : (p : Row → Bool) (a b : List Row) → only p (a ++ b) ≡ only p a ++ only p b
unfolding only
only_append p [] b = refl
only_append p (r ∷ a) b = ap (λ (l : List Row). only_if (p r) r ++ l) (only_append p a b) ∙ sym (append_assoc (only_if (p r) r) (only p a) (only p b))

-- all of a list, or none
abbrev pub kept : Bool → List Row → List Row
kept true rs = rs
kept false rs = []

-- where the test has one answer for all of them
pub only_kept : (p : Row → Bool) (b : Bool) {rs : List Row} → All (λ r. p r ≡ b) rs → only p rs ≡ kept b rs
unfolding only
only_kept p true no_more = refl
only_kept p false no_more = refl
only_kept p true (one_more {x = r} {l = rs} h hs) = ap (λ (b : Bool). only_if b r ++ only p rs) h ∙ ap (λ (l : List Row). r ∷ l) (only_kept p true hs)
only_kept p false (one_more {x = r} {l = rs} h hs) = ap (λ (b : Bool). only_if b r ++ only p rs) h ∙ only_kept p false hs

-- of those with a property, what holds of all and the property
pub all_kept : {P Q : Row → Type 0} (p : Row → Bool) → ((r : Row) → P r → p r ≡ true → Q r) → {rs : List Row} → All P rs → All Q (only p rs)
unfolding only
all_kept p f no_more = no_more
all_kept {P} {Q} p f (one_more {x = r} {l = rs} h a) = go (p r) refl (all_kept p f a)
  where
    go : (b : Bool) → p r ≡ b → All Q (only p rs) → All Q (only_if b r ++ only p rs)
    go true e rest = one_more (f r h e) rest
    go false e rest = rest

-- ---- each line
pub every_line : (p : Row → Bool) {rs : List Row} → All (λ r. p r ≡ true) rs → every p rs ≡ true
unfolding every
every_line p no_more = refl
every_line p (one_more {x = r} {l = rs} h hs) = both (p r) (every p rs) h (every_line p hs)

-- no number twice
pub none_twice_holds : {rs : List Row} → Distinct (λ (r : Row). r.number) rs → none_twice rs ≡ true
unfolding none_twice
none_twice_holds nothing = refl
none_twice_holds (another {x = r} {l = rs} h hs) =
    both (every (λ t. not (eqb t.number r.number)) rs) (none_twice rs)
    (every_line (λ t. not (eqb t.number r.number)) (all_so (λ t d. ap not (ne_eqb t.number r.number d)) h))
    (none_twice_holds hs)

-- ---- each line and the next one
module _ (p : Row → Row → Bool) (P : Row → Type 0) (key : Row → ℕ) (step : ℕ) (told : (r t : Row) → P r → P t → key r + step ≤ key t → p r t ≡ true) where
  each_next_holds : (r : Row) {rs : List Row} {hi : ℕ} → P r → All P rs → Chain key step (key r + step) hi rs → each_next p r rs ≡ true
  unfolding each_next
  each_next_holds r h no_more (last l) = refl
  each_next_holds r h (one_more {x = t} {l = rs} g gs) (next l c) = both (p r t) (each_next p t rs) (told r t h g l) (each_next_holds t g gs c)

  -- where the keys rise
  pub in_a_row_holds : {rs : List Row} {lo hi : ℕ} → All P rs → Chain key step lo hi rs → in_a_row p rs ≡ true
  in_a_row_holds no_more (last l) = refl
  in_a_row_holds (one_more {x = r} h hs) (next l c) = each_next_holds r h hs c

-- ---- ranks
-- the values of a table that counts on
pub ranks_table : (m n : ℕ) (f : ℕ → Row) → ((k : ℕ) → (f k).value ≡ m + k) → ranks_from m (table n f) ≡ true
unfolding ranks_from
ranks_table m zero f e = refl
ranks_table m (suc n) f e =
    both (eqb (f 0).value m) (ranks_from (suc m) (table n (λ k. f (suc k)))) (eq-eqb (f 0).value m (omega (arith, e 0)))
    (ranks_table (suc m) n (λ k. f (suc k)) (λ k. omega (arith, e (suc k))))
