-- The lines of a place by themselves: one each of the kinds 7, 8 and 9, or none. Assumes nothing.
use mathlib.Core.Path.{◌≡◌, refl, sym, ap, ◌∙◌}
use mathlib.Core.Bool.{Bool, true, ◌&&◌}
use mathlib.Core.List.{List, [], ◌∷◌}
use mathlib.Core.Logic.{◌⊎◌, inl, inr}
use Prim.Native.Nat.{ℕ, suc, ◌≤◌, ◌<◌}
use native.Mathlib.Nat.{eq-or-lt_of_le}
use native.Mathlib.Omega.{arith}
use borrow.Author.Tests.{eqb-true, leb-true, ltb-true, lt-ltb}
use lib.Dec.{eqb, leb}
use Rattle.lists.proofs.Bools.{both, both_true, same_test}
use Rattle.lines.specs.declared.Row.{Row}
use Rattle.reading.specs.Rules.{only, every, in_a_row, same_who}
use Rattle.reading.specs.Walk.{begins}
use Rattle.reading.proofs.Only.{every_split, up_by}
use Rattle.reading.proofs.Runs.{first_seen, run_from, runs}
use Rattle.reading.proofs.Steps.{is_placing, kinds, count, count_here, count_past, kinds_up, count_below, place_begins, Steps, run_steps, steps_run}

-- the clause, of these lines alone
abbrev pub one_place_of : List Row → Bool
one_place_of rs = leb (count 7 rs) 1 && (eqb (count 7 rs) (count 8 rs) && (eqb (count 7 rs) (count 9 rs) && in_a_row same_who rs))

nothing_placed : true ≡ one_place_of []
unfolding only
nothing_placed = refl

-- a first line of kind 7, and the steps after it
module _ (r : Row) (rs : List Row) where
  first_of : is_placing r ≡ true → every is_placing rs ≡ true → kinds_up r rs ≡ true → runs (r ∷ rs) ≡ true → (r.kind ≡ 7) × Steps r rs
  first_of p e u t =
      let b = both_true (begins r) (run_from r (first_seen r) rs) t in
      let k = kinds r p in
      let l = ltb-true r.kind 8 (sym (place_begins r k.0) ∙ b.0) in
      (omega arith, run_steps r (first_seen r) rs p e u b.1)

  first_run : is_placing r ≡ true → every is_placing rs ≡ true → kinds_up r rs ≡ true → r.kind ≡ 7 → Steps r rs → runs (r ∷ rs) ≡ true
  first_run p e u q s = both (begins r) (run_from r (first_seen r) rs) (place_begins r (kinds r p).0 ∙ lt-ltb r.kind 8 (omega arith)) (steps_run r (first_seen r) rs p e u s)

  first_counts : r.kind ≡ 7 → Steps r rs → one_place_of (r ∷ rs) ≡ true
  first_counts q s =
      let seven : count 7 (r ∷ rs) ≡ 1 = count_here 7 r rs q ∙ ap suc (ap (λ (k : ℕ). count k rs) (sym q) ∙ s.own) in
      let eight : count 8 (r ∷ rs) ≡ 1 = count_past 8 r rs (λ z. omega arith) ∙ s.above 8 (omega arith) (omega arith) in
      let nine : count 9 (r ∷ rs) ≡ 1 = count_past 9 r rs (λ z. omega arith) ∙ s.above 9 (omega arith) (omega arith) in
      simp (seven, eight, nine) s.who

  counts_first : is_placing r ≡ true → kinds_up r rs ≡ true → one_place_of (r ∷ rs) ≡ true → (r.kind ≡ 7) × Steps r rs
  counts_first p u t =
      let a = both_true (leb (count 7 (r ∷ rs)) 1) _ t in
      let b = both_true (eqb (count 7 (r ∷ rs)) (count 8 (r ∷ rs))) _ a.1 in
      let c = both_true (eqb (count 7 (r ∷ rs)) (count 9 (r ∷ rs))) _ b.1 in
      let most = leb-true (count 7 (r ∷ rs)) 1 a.0 in
      let eight = eqb-true (count 7 (r ∷ rs)) (count 8 (r ∷ rs)) b.0 in
      let nine = eqb-true (count 7 (r ∷ rs)) (count 9 (r ∷ rs)) c.0 in
      let seven = first eight nine (eq-or-lt_of_le (kinds r p).0) in
      let own : count 7 rs ≡ 0 = omega (arith, count_here 7 r rs seven) in
      (seven, record { who = c.1; own = ap (λ (k : ℕ). count k rs) seven ∙ own; above = one_each own seven eight nine })
    where
      first : count 7 (r ∷ rs) ≡ count 8 (r ∷ rs) → count 7 (r ∷ rs) ≡ count 9 (r ∷ rs) → (7 ≡ r.kind) ⊎ (7 < r.kind) → r.kind ≡ 7
      first x y (inl q) = sym q
      first x y (inr q) = absurd (go (eq-or-lt_of_le q))
        where
          go : (8 ≡ r.kind) ⊎ (8 < r.kind) → ⊥
          go (inl z) = omega (arith, x, count_below 7 r rs u q, count_here 8 r rs (sym z))
          go (inr z) = omega (arith, y, count_below 7 r rs u q, count_here 9 r rs (omega (arith, (kinds r p).1)))

      one_each : count 7 rs ≡ 0 → r.kind ≡ 7 → count 7 (r ∷ rs) ≡ count 8 (r ∷ rs) → count 7 (r ∷ rs) ≡ count 9 (r ∷ rs) → (k : ℕ) → r.kind < k → k ≤ 9 → count k rs ≡ 1
      one_each own q x y k h g = sym (count_past k r rs (λ z. omega arith)) ∙ go (eq-or-lt_of_le g)
        where
          one : count 7 (r ∷ rs) ≡ 1
          one = omega (arith, count_here 7 r rs q)

          go : (k ≡ 9) ⊎ (k < 9) → count k (r ∷ rs) ≡ 1
          go (inl z) = ap (λ (j : ℕ). count j (r ∷ rs)) z ∙ sym y ∙ one
          go (inr z) = let e : k ≡ 8 = omega arith in ap (λ (j : ℕ). count j (r ∷ rs)) e ∙ sym x ∙ one

pub place_run : (rs : List Row) → every is_placing rs ≡ true → in_a_row (up_by (λ r. r.kind)) rs ≡ true → runs rs ≡ one_place_of rs
place_run [] e u = nothing_placed
place_run (r ∷ rs) e u =
    let a = every_split is_placing r rs e in
    same_test (runs (r ∷ rs)) (one_place_of (r ∷ rs))
    (λ t. let f = first_of r rs a.0 a.1 u t in first_counts r rs f.0 f.1)
    (λ t. let f = counts_first r rs a.0 u t in first_run r rs a.0 a.1 u f.0 f.1)
