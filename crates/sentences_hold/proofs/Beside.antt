-- A player has a line of kind 1 exactly where its sentence is not empty, and the verdict in the sentence is the decision's. Assumes nothing.
use mathlib.Core.Path.{◌≡◌, refl, sym, ap, ap₂, ◌∙◌}
use mathlib.Core.Bool.{Bool, true, false, not, ◌&&◌, ◌||◌}
use mathlib.Core.List.{List, [], ◌∷◌, ◌++◌}
use mathlib.Core.Logic.{⊎_elim}
use Prim.Native.Nat.{ℕ, zero, suc, ◌+◌, ◌<◌}
use native.Mathlib.Nat.{eq-or-lt_of_le, le_of_suc-le-suc}
use native.Mathlib.Omega.{arith}
use borrow.Author.Tests.{eq-eqb, ne_eqb}
use lib.Dec.{eqb, ltb}
use Rattle.lists.specs.Gather.{flat_to, only_if}
use Rattle.game.specs.Codes.{side_code, positioning_code}
use Rattle.game.specs.Players.{number_at}
use Rattle.game.specs.declared.Decision.{Decision}
use Rattle.game.specs.declared.Positioning.{Positioning}
use Rattle.game.specs.declared.Side.{Side}
use Rattle.game.specs.declared.Side.TheVariants.{Home, Away}
use Rattle.decision.specs.Decision.{decision_of}
use Rattle.lines.specs.declared.Row.{Row}
use Rattle.sheet.specs.Rows.{row, verdict_code, verdict_row, verdict_rows}
use Rattle.coach.specs.Coach.{condition_for, sentence_of}
use Rattle.sentences_hold.specs.Claims.{verdict_in, verdict_line, verdict_lines, any_for, BesideSheetClaim}
use Rattle.sentences_hold.proofs.Verdicts.{verdict_told, line_of_verdict, some_coded, empty_unless}
use Rattle.sentences_hold.proofs.Kind.{verdict_lines_holds}

or_false : (a : Bool) → (a || false) ≡ a
or_false true = refl
or_false false = refl

-- ---- a line for a player among lists
any_append : (side : Side) (n : ℕ) (k l : List Row) → any_for side n (k ++ l) ≡ (any_for side n k || any_for side n l)
any_append side n [] l = refl
any_append side n (r ∷ k) l = go (eqb r.side (side_code side) && eqb r.number n) (any_append side n k l)
  where
    go : (b : Bool) → any_for side n (k ++ l) ≡ (any_for side n k || any_for side n l) → (b || any_for side n (k ++ l)) ≡ ((b || any_for side n k) || any_for side n l)
    go true e = refl
    go false e = e

-- the one line of a player, or none
any_one : (side other : Side) (n m v : ℕ) (b : Bool) → any_for side n (only_if b (row 1 (side_code other) m v)) ≡ (b && eqb (side_code other) (side_code side) && eqb m n)
any_one side other n m v true = or_false (eqb (side_code other) (side_code side) && eqb m n)
any_one side other n m v false = refl

-- none in all parts
any_none : (side : Side) (n k : ℕ) (f : ℕ → List Row) → ((i : ℕ) → i < k → any_for side n (f i) ≡ false) → any_for side n (flat_to k f) ≡ false
unfolding flat_to
any_none side n zero f e = refl
any_none side n (suc k) f e = any_append side n (flat_to k f) (f k) ∙ ap₂ (λ (a b : Bool). a || b) (any_none side n k f (λ i h. e i (omega arith))) (e k (omega arith))

-- none but in the part i
any_at : (side : Side) (n k i : ℕ) (f : ℕ → List Row) → i < k → ((j : ℕ) → (j ≡ i → ⊥) → any_for side n (f j) ≡ false) → any_for side n (flat_to k f) ≡ any_for side n (f i)
unfolding flat_to
any_at side n zero i f h e = absurd (omega arith)
any_at side n (suc k) i f h e =
    any_append side n (flat_to k f) (f k)
    ∙ ⊎_elim
    (λ (q : i ≡ k).
    ap (λ (a : Bool). a || any_for side n (f k)) (any_none side n k f (λ j l. e j (λ (p : j ≡ i). omega (arith, p, q, l)))) ∙ ap (λ (j : ℕ). any_for side n (f j)) (sym q))
    (λ (l : i < k). ap₂ (λ (a b : Bool). a || b) (any_at side n k i f l e) (e k (λ (p : k ≡ i). omega (arith, p, l))) ∙ or_false (any_for side n (f i)))
    (eq-or-lt_of_le (le_of_suc-le-suc h))

-- ---- the lines of the verdicts
and-false : (a : Bool) → (a && false) ≡ false
and-false true = refl
and-false false = refl

middle_false : (a b : Bool) → (a && false && b) ≡ false
middle_false true b = refl
middle_false false b = refl

same_code : (side : Side) → eqb (side_code side) (side_code side) ≡ true
same_code Home = refl
same_code Away = refl

-- of the player's own side: as its verdict has a number above 0
own_side : (side : Side) (vs : List Positioning) (i : ℕ) → i < 20 → any_for side (i + 1) (verdict_rows side vs) ≡ ltb 0 (verdict_code vs i)
unfolding verdict_rows
own_side side vs i h =
    any_at side (i + 1) 20 i (verdict_row (side_code side) vs) h (λ j n. any_one side side (i + 1) (j + 1) (verdict_code vs j) (ltb 0 (verdict_code vs j)) ∙ miss (ltb 0 (verdict_code vs j)) j n)
    ∙ any_one side side (i + 1) (i + 1) (verdict_code vs i) (ltb 0 (verdict_code vs i))
    ∙ hit (ltb 0 (verdict_code vs i))
  where
    miss : (b : Bool) (j : ℕ) → (j ≡ i → ⊥) → (b && eqb (side_code side) (side_code side) && eqb (j + 1) (i + 1)) ≡ false
    miss b j n =
        let no : eqb (j + 1) (i + 1) ≡ false = ne_eqb _ _ (λ (e : j + 1 ≡ i + 1). n (omega (arith, e))) in
        ap₂ (λ (x y : Bool). b && x && y) (same_code side) no ∙ and-false (b && true)

    hit : (b : Bool) → (b && eqb (side_code side) (side_code side) && eqb (i + 1) (i + 1)) ≡ b
    hit true = ap₂ (λ (x y : Bool). x && y) (same_code side) (eq-eqb (i + 1) (i + 1) refl)
    hit false = refl

-- of the other side: none
other_side : (side other : Side) (vs : List Positioning) (n : ℕ) → eqb (side_code other) (side_code side) ≡ false → any_for side n (verdict_rows other vs) ≡ false
unfolding verdict_rows
other_side side other vs n e =
    any_none side n 20 (verdict_row (side_code other) vs)
    (λ j h. any_one side other n (j + 1) (verdict_code vs j) (ltb 0 (verdict_code vs j)) ∙ ap (λ (x : Bool). ltb 0 (verdict_code vs j) && x && eqb (j + 1) n) e ∙ middle_false (ltb 0 (verdict_code vs j)) (eqb (j + 1) n))

any_told : (d : Decision) (side : Side) (i : ℕ) → i < 20 → any_for side (i + 1) (verdict_lines d) ≡ ltb 0 (positioning_code (verdict_in d side i))
any_told d side i h = ap (any_for side (i + 1)) (verdict_lines_holds d) ∙ any_append side (i + 1) (verdict_rows Home d.home.verdicts) (verdict_rows Away d.away.verdicts) ∙ go side
  where
    go : (z : Side) → (any_for z (i + 1) (verdict_rows Home d.home.verdicts) || any_for z (i + 1) (verdict_rows Away d.away.verdicts)) ≡ ltb 0 (positioning_code (verdict_in d z i))
    go Home = ap₂ (λ (a b : Bool). a || b) (own_side Home d.home.verdicts i h) (other_side Home Away d.away.verdicts (i + 1) refl) ∙ or_false _
    go Away = ap₂ (λ (a b : Bool). a || b) (other_side Away Home d.home.verdicts (i + 1) refl) (own_side Away d.away.verdicts i h)

pub beside_sheet : BesideSheetClaim
unfolding sentence_of
beside_sheet s xs ys side i h =
    let c = condition_for s side (number_at i) in
    let same = verdict_told s xs ys side i h in
    record {
      verdict = line_of_verdict side (number_at i) c ∙ ap (λ (v : Positioning). verdict_line side (number_at i) v c) (sym same);
      empty = empty_unless side (number_at i) c ∙ ap not (sym (any_told (decision_of s xs ys) side i h ∙ ap (λ (v : Positioning). ltb 0 (positioning_code v)) same ∙ some_coded c));
    }
