-- The lines of one kind by themselves: those in which players rise, and those of one line at most. Assumes nothing.
use mathlib.Core.Path.{◌≡◌, refl, sym, ap, ap₂, subst, ◌∙◌}
use mathlib.Core.Bool.{Bool, true, false, ◌&&◌}
use mathlib.Core.List.{List, [], ◌∷◌}
use Prim.Native.Nat.{ℕ, suc}
use native.Mathlib.Omega.{arith}
use borrow.Author.Tests.{eqb-true, lt-leb}
use lib.Dec.{eqb, leb}
use lib.ListN.{length}
use Rattle.lists.proofs.Bools.{both_same}
use Rattle.lines.specs.declared.Row.{Row}
use Rattle.reading.specs.Rules.{every, each_next, in_a_row, earlier}
use Rattle.reading.specs.Walk.{begins, continues, ends}
use Rattle.reading.proofs.Only.{every_split}
use Rattle.reading.proofs.ItemKinds.{Rising, one, four, five, Single, three, six}
use Rattle.reading.proofs.Runs.{first_seen, more_seen, run_from, run_end, run_next, runs}

-- a line has the kind k
abbrev pub of_one : ℕ → Row → Bool
of_one k r = eqb r.kind k

-- the kind of the first line, and that of the others
pub has_kind : (P : ℕ → Type 0) (k : ℕ) (r : Row) (rs : List Row) → P k → every (of_one k) (r ∷ rs) ≡ true → P r.kind × (every (of_one k) rs ≡ true)
has_kind P k r rs p e = let b = every_split (of_one k) r rs e in (subst P (sym (eqb-true r.kind k b.0)) p, b.1)

-- ---- players rise
rising_begins : (r : Row) → Rising r.kind → begins r ≡ true
unfolding begins
rising_begins r (one e) = simp e
rising_begins r (four e) = simp e
rising_begins r (five e) = simp e

rising_continues : (l : Row) (seen : ℕ) (r : Row) → Rising r.kind → continues l seen r ≡ earlier l r
unfolding continues
rising_continues l seen r (one e) = simp e
rising_continues l seen r (four e) = simp e
rising_continues l seen r (five e) = simp e

rising_ends : (r : Row) → Rising r.kind → ends r ≡ true
rising_ends r (one e) = simp e
rising_ends r (four e) = simp e
rising_ends r (five e) = simp e

rising_from : (k : ℕ) → Rising k → (l : Row) (seen : ℕ) (rs : List Row) → Rising l.kind → every (of_one k) rs ≡ true → run_from l seen rs ≡ each_next earlier l rs
unfolding each_next
rising_from k p l seen [] h e = run_end l seen ∙ rising_ends l h
rising_from k p l seen (r ∷ rs) h e =
    let b = has_kind Rising k r rs p e in
    run_next l seen r rs
    ∙ both_same (continues l seen r) (run_from r (more_seen seen r) rs) (earlier l r) (each_next earlier r rs)
    (rising_continues l seen r b.0) (λ _. rising_from k p r (more_seen seen r) rs b.0 b.1)

pub rising_run : (k : ℕ) → Rising k → (rs : List Row) → every (of_one k) rs ≡ true → runs rs ≡ in_a_row earlier rs
rising_run k p [] e = refl
rising_run k p (r ∷ rs) e =
    let b = has_kind Rising k r rs p e in
    ap (λ (x : Bool). x && run_from r (first_seen r) rs) (rising_begins r b.0) ∙ rising_from k p r (first_seen r) rs b.0 b.1

-- ---- one line at most
single_begins : (r : Row) → Single r.kind → begins r ≡ true
unfolding begins
single_begins r (three e) = simp e
single_begins r (six e) = simp e

single_continues : (l : Row) (seen : ℕ) (r : Row) → Single r.kind → continues l seen r ≡ false
unfolding continues
single_continues l seen r (three e) = simp e
single_continues l seen r (six e) = simp e

single_ends : (r : Row) → Single r.kind → ends r ≡ true
single_ends r (three e) = simp e
single_ends r (six e) = simp e

pub single_run : (k : ℕ) → Single k → (rs : List Row) → every (of_one k) rs ≡ true → runs rs ≡ leb (length rs) 1
single_run k p [] e = refl
single_run k p (r ∷ []) e =
    let b = has_kind Single k r [] p e in
    ap₂ (λ (x y : Bool). x && y) (single_begins r b.0) (run_end r (first_seen r) ∙ single_ends r b.0)
single_run k p (r ∷ t ∷ rs) e =
    let b = has_kind Single k r (t ∷ rs) p e in
    let c = has_kind Single k t rs p b.1 in
    ap₂ (λ (x y : Bool). x && y) (single_begins r b.0) (run_next r (first_seen r) t rs ∙ ap (λ (x : Bool). x && run_from t (more_seen (first_seen r) t) rs) (single_continues r (first_seen r) t c.0))
    ∙ sym (lt-leb (suc (suc (length rs))) 1 (omega arith))
