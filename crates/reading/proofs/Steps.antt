-- The lines of a place after one of them: one of each later kind. Assumes nothing.
use mathlib.Core.Path.{◌≡◌, refl, sym, ap, ◌∙◌}
use mathlib.Core.Bool.{Bool, true, ◌&&◌, ◌||◌, cond}
use mathlib.Core.List.{List, [], ◌∷◌}
use mathlib.Core.Logic.{◌⊎◌, inl, inr}
use Prim.Native.Nat.{ℕ, suc, ◌+◌, ◌≤◌, ◌<◌}
use native.Mathlib.Nat.{eq-or-lt_of_le}
use native.Mathlib.Omega.{arith}
use borrow.Author.Tests.{eqb-true, eqb-false, leb-true, le-leb, eq-eqb, ne_eqb, not-true}
use lib.Dec.{eqb, ltb, leb}
use lib.ListN.{length}
use Rattle.lists.proofs.Bools.{both, both_true, neither}
use Rattle.lines.specs.declared.Row.{Row}
use Rattle.reading.specs.Rules.{only, every, each_next, of_kind, same_who}
use Rattle.reading.specs.Walk.{begins, continues, ends}
use Rattle.reading.proofs.Only.{only_yes, only_no, every_split, next_split, next_join, up_by, none_below}
use Rattle.reading.proofs.Runs.{more_seen, run_from, run_end, run_next}

-- a line of a place
abbrev pub is_placing : Row → Bool
is_placing r = leb 7 r.kind && leb r.kind 9

pub kinds : (r : Row) → is_placing r ≡ true → (7 ≤ r.kind) × (r.kind ≤ 9)
kinds r e = let b = both_true (leb 7 r.kind) (leb r.kind 9) e in (leb-true 7 r.kind b.0, leb-true r.kind 9 b.1)

-- ---- how many lines of a kind
abbrev pub count : ℕ → List Row → ℕ
count k rs = length (of_kind k rs)

count_nothing : (k : ℕ) → count k [] ≡ 0
unfolding only
count_nothing k = refl

pub count_here : (k : ℕ) (r : Row) (rs : List Row) → r.kind ≡ k → count k (r ∷ rs) ≡ suc (count k rs)
count_here k r rs e = ap length (only_yes (λ t. eqb t.kind k) r rs (eq-eqb r.kind k e))

pub count_past : (k : ℕ) (r : Row) (rs : List Row) → (r.kind ≡ k → ⊥) → count k (r ∷ rs) ≡ count k rs
count_past k r rs n = ap length (only_no (λ t. eqb t.kind k) r rs (ne_eqb r.kind k n))

-- the kinds never fall
abbrev pub kinds_up : Row → List Row → Bool
kinds_up l rs = each_next (up_by (λ r. r.kind)) l rs

pub count_below : (k : ℕ) (r : Row) (rs : List Row) → kinds_up r rs ≡ true → k < r.kind → count k (r ∷ rs) ≡ 0
count_below k r rs e h = ap length (none_below (λ t. t.kind) k r rs e h)

-- ---- a line of a place and the next
pub place_begins : (r : Row) → 7 ≤ r.kind → begins r ≡ ltb r.kind 8
unfolding begins
place_begins r h = ap (λ (b : Bool). cond b (eqb r.value 1) (ltb r.kind 8)) (ne_eqb r.kind 2 (λ e. omega arith))

place_continues : (l : Row) (seen : ℕ) (r : Row) → 7 ≤ r.kind → continues l seen r ≡ (eqb r.kind (l.kind + 1) && same_who l r)
unfolding continues
place_continues l seen r h = simp (ne_eqb r.kind 2 (λ e. omega arith), le-leb 7 r.kind h)

place_ends : (r : Row) → 7 ≤ r.kind → r.kind ≤ 9 → ends r ≡ true → r.kind ≡ 9
place_ends r h g e =
    let b = neither (eqb r.kind 7) (eqb r.kind 8) (not-true (eqb r.kind 7 || eqb r.kind 8) e) in
    last r.kind h g (eqb-false r.kind 7 b.0) (eqb-false r.kind 8 b.1)
  where
    last : (k : ℕ) → 7 ≤ k → k ≤ 9 → (k ≡ 7 → ⊥) → (k ≡ 8 → ⊥) → k ≡ 9
    last k h g a b = omega arith

nine_ends : (r : Row) → r.kind ≡ 9 → ends r ≡ true
nine_ends r e = simp e

-- ---- the lines after the line l of a place
-- none of its kind, one of each later kind, all for the same player or the ball
pub record Steps (l : Row) (rs : List Row) : Type 0 where
  pub who : each_next same_who l rs ≡ true
  pub own : count l.kind rs ≡ 0
  pub above : (k : ℕ) → l.kind < k → k ≤ 9 → count k rs ≡ 1

pub run_steps : (l : Row) (seen : ℕ) (rs : List Row) → is_placing l ≡ true → every is_placing rs ≡ true → kinds_up l rs ≡ true → run_from l seen rs ≡ true → Steps l rs
run_steps l seen [] p e u t =
    let k = kinds l p in
    let nine = place_ends l k.0 k.1 (sym (run_end l seen) ∙ t) in
    record { who = unfold each_next in refl; own = count_nothing l.kind; above = λ j h g. absurd (omega arith) }
run_steps l seen (r ∷ rs) p e u t =
    let a = every_split is_placing r rs e in
    let up = next_split (up_by (λ r. r.kind)) l r rs u in
    let b = both_true (continues l seen r) (run_from r (more_seen seen r) rs) (sym (run_next l seen r rs) ∙ t) in
    let c = both_true (eqb r.kind (l.kind + 1)) (same_who l r) (sym (place_continues l seen r (kinds r a.0).0) ∙ b.0) in
    let step : r.kind ≡ l.kind + 1 = eqb-true r.kind (l.kind + 1) c.0 in
    let s = run_steps r (more_seen seen r) rs a.0 a.1 up.1 b.1 in
    record {
      who = next_join same_who l r rs c.1 s.who;
      own = count_below l.kind r rs up.1 (omega arith);
      above = λ k h g. one_of step s k g (eq-or-lt_of_le (le_of step k h));
    }
  where
    le_of : r.kind ≡ l.kind + 1 → (k : ℕ) → l.kind < k → r.kind ≤ k
    le_of e k h = omega arith

    one_of : r.kind ≡ l.kind + 1 → Steps r rs → (k : ℕ) → k ≤ 9 → (r.kind ≡ k) ⊎ (r.kind < k) → count k (r ∷ rs) ≡ 1
    one_of e s k g (inl q) = count_here k r rs q ∙ ap suc (ap (λ (j : ℕ). count j rs) (sym q) ∙ s.own)
    one_of e s k g (inr q) = count_past k r rs (λ z. omega arith) ∙ s.above k q g

pub steps_run : (l : Row) (seen : ℕ) (rs : List Row) → is_placing l ≡ true → every is_placing rs ≡ true → kinds_up l rs ≡ true → Steps l rs → run_from l seen rs ≡ true
steps_run l seen [] p e u s = run_end l seen ∙ go (eq-or-lt_of_le (kinds l p).1)
  where
    go : (l.kind ≡ 9) ⊎ (l.kind < 9) → ends l ≡ true
    go (inl q) = nine_ends l q
    go (inr q) = absurd (omega (arith, s.above 9 q (omega arith), count_nothing 9))
steps_run l seen (r ∷ rs) p e u s =
    let a = every_split is_placing r rs e in
    let up = next_split (up_by (λ r. r.kind)) l r rs u in
    let w = next_split same_who l r rs s.who in
    let step : r.kind ≡ l.kind + 1 = after up.1 (kinds r a.0).1 (eq-or-lt_of_le (leb-true l.kind r.kind up.0)) in
    run_next l seen r rs
    ∙ both (continues l seen r) (run_from r (more_seen seen r) rs)
    (place_continues l seen r (kinds r a.0).0 ∙ both (eqb r.kind (l.kind + 1)) (same_who l r) (eq-eqb r.kind (l.kind + 1) step) w.0)
    (steps_run r (more_seen seen r) rs a.0 a.1 up.1
    (record {
      who = w.1;
      own = omega (arith, count_here r.kind r rs refl, s.above r.kind (omega arith) (kinds r a.0).1);
      above = λ k h g. sym (count_past k r rs (λ z. omega arith)) ∙ s.above k (omega arith) g;
    }))
  where
    after : kinds_up r rs ≡ true → r.kind ≤ 9 → (l.kind ≡ r.kind) ⊎ (l.kind < r.kind) → r.kind ≡ l.kind + 1
    after up h (inl q) = absurd (omega (arith, s.own, count_here l.kind r rs (sym q)))
    after up h (inr q) = go (eq-or-lt_of_le q)
      where
        go : (suc l.kind ≡ r.kind) ⊎ (suc l.kind < r.kind) → r.kind ≡ l.kind + 1
        go (inl z) = omega arith
        go (inr z) = absurd (omega (arith, count_below (suc l.kind) r rs up z, s.above (suc l.kind) (omega arith) (omega arith)))
