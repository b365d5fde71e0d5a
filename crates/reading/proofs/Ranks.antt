-- The lines of kind 2 of a side by themselves: the ranks without gaps, and nobody twice. Assumes nothing.
use mathlib.Core.Path.{◌≡◌, refl, sym, ap, ap₂, ◌∙◌}
use mathlib.Core.Bool.{Bool, true, false, not, ◌&&◌, ◌||◌}
use mathlib.Core.List.{List, [], ◌∷◌}
use Prim.Native.Nat.{ℕ, suc, ◌+◌, ◌^◌}
use native.Mathlib.Numerals.{add-one}
use borrow.Author.Tests.{eqb-true}
use lib.Bits.{bit_or}
use lib.Dec.{eqb}
use Rattle.lines.specs.declared.Row.{Row}
use Rattle.reading.specs.Rules.{every, ranks_from, none_twice}
use Rattle.reading.specs.Walk.{begins, flagged, continues, ends}
use Rattle.reading.proofs.Flags.{flagged_more, flagged_none}
use Rattle.reading.proofs.Runs.{first_seen, more_seen, run_from, run_end, run_next, runs}
use Rattle.reading.proofs.Clauses.{of_one, has_kind}

-- ---- which numbers are seen
abbrev unseen : ℕ → Row → Bool
unseen seen t = not (flagged seen t.number)

abbrev another : Row → Row → Bool
another r t = not (eqb t.number r.number)

not_or : (a b : Bool) → not (a || b) ≡ (not a && not b)
not_or true b = refl
not_or false b = refl

apart : (a b c d : Bool) → ((a && b) && (c && d)) ≡ ((a && c) && (b && d))
apart true true c d = refl
apart true false true d = refl
apart true false false d = refl
apart false b c d = refl

-- a line more is seen
unseen_more : (seen : ℕ) (r : Row) (rs : List Row) → every (unseen (bit_or seen (2 ^ r.number))) rs ≡ (every (unseen seen) rs && every (another r) rs)
unfolding every
unseen_more seen r [] = refl
unseen_more seen r (t ∷ rs) =
    ap₂ (λ (x y : Bool). x && y) (ap not (flagged_more seen r.number t.number) ∙ not_or (flagged seen t.number) (eqb t.number r.number)) (unseen_more seen r rs)
    ∙ apart (unseen seen t) (another r t) (every (unseen seen) rs) (every (another r) rs)

-- none is seen
unseen_none : (rs : List Row) → every (unseen 0) rs ≡ true
unfolding every
unseen_none [] = refl
unseen_none (t ∷ rs) = ap₂ (λ (x y : Bool). not x && y) (flagged_none t.number) (unseen_none rs)

-- ---- a line of kind 2 and the next
two_continues : (l : Row) (seen : ℕ) (r : Row) → r.kind ≡ 2 → continues l seen r ≡ (eqb r.value (l.value + 1) && unseen seen r)
unfolding continues
two_continues l seen r e = simp e

two_seen : (seen : ℕ) (r : Row) → r.kind ≡ 2 → more_seen seen r ≡ bit_or seen (2 ^ r.number)
two_seen seen r e = simp e

two_ends : (r : Row) → r.kind ≡ 2 → ends r ≡ true
two_ends r e = simp e

-- ---- the lines after one of them
-- the tests of a line, of the ranks after it and of the numbers, in another order
shuffle : (b c d e f : Bool) → (b && (c && ((d && e) && f))) ≡ (c && ((b && d) && (e && f)))
shuffle true true true e f = refl
shuffle true true false e f = refl
shuffle true false d e f = refl
shuffle false true d e f = refl
shuffle false false d e f = refl

ranked_on : (a b c g d e f : Bool) → (a ≡ true → c ≡ g) → ((a && b) && (c && ((d && e) && f))) ≡ ((a && g) && ((b && d) && (e && f)))
ranked_on true b c g d e f h = ap (λ (x : Bool). b && (x && ((d && e) && f))) (h refl) ∙ shuffle b g d e f
ranked_on false b c g d e f h = refl

two_from : (l : Row) (seen : ℕ) (rs : List Row) → l.kind ≡ 2 → every (of_one 2) rs ≡ true → run_from l seen rs ≡ (ranks_from (l.value + 1) rs && (every (unseen seen) rs && none_twice rs))
two_from l seen [] h e = run_end l seen ∙ two_ends l h ∙ (unfold ranks_from every none_twice in refl)
two_from l seen (r ∷ rs) h e =
    let b = has_kind (λ k. k ≡ 2) 2 r rs refl e in
    let more : ℕ = bit_or seen (2 ^ r.number) in
    let end : Bool = none_twice rs in
    run_next l seen r rs
    ∙ ap₂ (λ (x : Bool) (s : ℕ). x && run_from r s rs) (two_continues l seen r b.0) (two_seen seen r b.0)
    ∙ ap (λ (x : Bool). (eqb r.value (l.value + 1) && unseen seen r) && x) (two_from r more rs b.0 b.1)
    ∙ ap (λ (x : Bool). (eqb r.value (l.value + 1) && unseen seen r) && (ranks_from (r.value + 1) rs && (x && end))) (unseen_more seen r rs)
    ∙ ranked_on (eqb r.value (l.value + 1)) (unseen seen r) (ranks_from (r.value + 1) rs) (ranks_from (suc (l.value + 1)) rs) (every (unseen seen) rs) (every (another r) rs) end
    (λ v. ap (λ (n : ℕ). ranks_from n rs) (add-one r.value ∙ ap suc (eqb-true r.value (l.value + 1) v)))
    ∙ closed
  where
    closed : ((eqb r.value (l.value + 1) && ranks_from (suc (l.value + 1)) rs) && ((unseen seen r && every (unseen seen) rs) && (every (another r) rs && none_twice rs)))
        ≡ (ranks_from (l.value + 1) (r ∷ rs) && (every (unseen seen) (r ∷ rs) && none_twice (r ∷ rs)))
    closed = unfold ranks_from every none_twice in refl

-- ---- all lines of a side
-- a line before the first
abbrev none_yet : Row
none_yet = record { kind = 2; side = 0; number = 0; value = 0 }

two_begins : (r : Row) → r.kind ≡ 2 → begins r ≡ continues none_yet 0 r
two_begins r e = begun ∙ sym (two_continues none_yet 0 r e ∙ ap (λ (x : Bool). eqb r.value 1 && not x) (flagged_none r.number) ∙ last (eqb r.value 1))
  where
    begun : begins r ≡ eqb r.value 1
    begun = unfold begins in simp e

    last : (b : Bool) → (b && true) ≡ b
    last true = refl
    last false = refl

two_first : (rs : List Row) → every (of_one 2) rs ≡ true → runs rs ≡ run_from none_yet 0 rs
two_first [] e = sym (run_end none_yet 0)
two_first (r ∷ rs) e =
    ap (λ (x : Bool). x && run_from r (first_seen r) rs) (two_begins r (has_kind (λ k. k ≡ 2) 2 r rs refl e).0) ∙ sym (run_next none_yet 0 r rs)

pub two_run : (rs : List Row) → every (of_one 2) rs ≡ true → runs rs ≡ (ranks_from 1 rs && none_twice rs)
two_run rs e =
    two_first rs e ∙ two_from none_yet 0 rs refl e
    ∙ ap (λ (x : Bool). ranks_from 1 rs && (x && none_twice rs)) (unseen_none rs)
