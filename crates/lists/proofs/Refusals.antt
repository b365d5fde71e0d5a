-- The first refusal of a list is 0 exactly when all its requirements hold; a list that goes on is asked further only then. Assumes nothing.
use mathlib.Core.Path.{◌≡◌, refl, sym, ap, ◌∙◌}
use mathlib.Core.Bool.{Bool, true, false, ◌&&◌, true≢false, cond}
use mathlib.Core.List.{List, [], ◌∷◌, ◌++◌}
use Prim.Native.Nat.{ℕ}
use native.Mathlib.Omega.{arith}
use borrow.Author.Tests.{ne_eqb, ltb-true}
use lib.Dec.{eqb, ltb}
use Rattle.lists.specs.Refusals.{Requirement, first_refusal, all_hold, all_numbered}
use Rattle.lists.proofs.Bools.{both_true}

pub none_refused : (cs : List Requirement) → all_hold cs ≡ true → first_refusal cs ≡ 0
none_refused [] e = refl
none_refused (c ∷ cs) e =
    let p = both_true c.holds (all_hold cs) e in
    ap (λ (b : Bool). cond b (first_refusal cs) c.number) p.0 ∙ none_refused cs p.1

pub all_hold_holds : (cs : List Requirement) → all_numbered cs ≡ true → first_refusal cs ≡ 0 → all_hold cs ≡ true
all_hold_holds [] n e = refl
all_hold_holds (c ∷ cs) n e = let p = both_true (ltb 0 c.number) (all_numbered cs) n in go c.holds c.number p.0 (all_hold_holds cs p.1) e
  where
    go : (b : Bool) (k : ℕ) → ltb 0 k ≡ true → (first_refusal cs ≡ 0 → all_hold cs ≡ true) → cond b (first_refusal cs) k ≡ 0 → b && all_hold cs ≡ true
    go true k h rest e = rest e
    go false k h rest e = absurd (true≢false (sym h ∙ ap (ltb 0) e))

-- more requirements after the first ones
pub refusal_append : (cs ds : List Requirement) → all_numbered cs ≡ true → first_refusal (cs ++ ds) ≡ cond (eqb (first_refusal cs) 0) (first_refusal ds) (first_refusal cs)
refusal_append [] ds n = refl
refusal_append (c ∷ cs) ds n = let p = both_true (ltb 0 c.number) (all_numbered cs) n in go c.holds c.number p.0 (refusal_append cs ds p.1)
  where
    go : (b : Bool) (k : ℕ) → ltb 0 k ≡ true → first_refusal (cs ++ ds) ≡ cond (eqb (first_refusal cs) 0) (first_refusal ds) (first_refusal cs)
        → cond b (first_refusal (cs ++ ds)) k ≡ cond (eqb (cond b (first_refusal cs) k) 0) (first_refusal ds) (cond b (first_refusal cs) k)
    go true k h rest = rest
    go false k h rest = sym (ap (λ (z : Bool). cond z (first_refusal ds) k) (ne_eqb k 0 (λ (e : k ≡ 0). omega (arith, ltb-true 0 k h))))
