-- Each block of items by its rule: what its lines by themselves must fulfil is the clause on them. Assumes nothing.
use mathlib.Core.Path.{◌≡◌, refl, ap, subst, ◌∙◌}
use mathlib.Core.Bool.{Bool, true, false, ◌&&◌}
use mathlib.Core.List.{List, [], ◌∷◌}
use mathlib.Core.Logic.{◌⊎◌, inl, inr}
use Prim.Native.Nat.{ℕ, ◌+◌, ◌*◌, ◌≤◌, ◌<◌}
use native.Mathlib.Omega.{arith}
use borrow.Author.Tests.{eqb-true, leb-true, le-leb}
use lib.Dec.{eqb, leb}
use Rattle.lists.proofs.Bools.{both, both_true, by_test}
use Rattle.lines.specs.declared.Row.{Row}
use Rattle.items.specs.Items.{is_item}
use Rattle.reading.specs.Rules.{only, every, each_next, in_a_row, of_kind, excess_of, not_before, players_rise, ranked, named_once, at_most_one, placing, one_place}
use Rattle.reading.specs.Walk.{block}
use Rattle.reading.proofs.Only.{only_no, only_same, only_among, every_split, every_only, next_split, next_imply, up_by, up_only}
use Rattle.reading.proofs.Blocks.{kind_up}
use Rattle.reading.proofs.ItemKinds.{Rising, one, four, five, Single, three, six, Kind, rising, named, single, placed, kind_of, Rule, rise, name, alone, place, rule_of, in_double, in_excess, in_place}
use Rattle.reading.proofs.Runs.{runs, in_block}
use Rattle.reading.proofs.Clauses.{of_one, rising_run, single_run}
use Rattle.reading.proofs.Ranks.{two_run}
use Rattle.reading.proofs.Steps.{is_placing}
use Rattle.reading.proofs.Places.{one_place_of, place_run}

-- ---- each block by its rule
-- the clause of a block
abbrev pub ruled : {b : ℕ} → Rule b → List Row → Bool
ruled (rise k p e) rs = players_rise k rs
ruled (name side l e) rs = ranked side rs && named_once side rs
ruled (alone k p e) rs = at_most_one k rs
ruled (place e) rs = one_place rs

-- the lines of a block, where its number and the test of its lines are known
block_is : (b c : ℕ) (p : Row → Bool) → b ≡ c → ((r : Row) → is_item r ≡ true → eqb (block r) c ≡ p r) → (rs : List Row) → every is_item rs ≡ true → in_block b rs ≡ only p rs
block_is b c p e h rs i = ap (λ (x : ℕ). in_block x rs) e ∙ only_same (λ r. eqb (block r) c) p is_item h rs i

-- those of a kind
kind_is : (b k : ℕ) → b ≡ 2 * k → k < 7 → (k ≡ 2 → ⊥) → (rs : List Row) → every is_item rs ≡ true → in_block b rs ≡ of_kind k rs
kind_is b k e l n rs i = block_is b (2 * k) (of_one k) e (λ r _. in_double k l n r) rs i

all_kind : (k : ℕ) (rs : List Row) → every is_item rs ≡ true → every (of_one k) (of_kind k rs) ≡ true
all_kind k rs i = every_only (of_one k) (of_one k) is_item (λ r _ y. y) rs i

rising_law : (b k : ℕ) → b ≡ 2 * k → Rising k → (rs : List Row) → every is_item rs ≡ true → runs (in_block b rs) ≡ players_rise k rs
rising_law b k e p rs i = ap runs (go p) ∙ rising_run k p (of_kind k rs) (all_kind k rs i)
  where
    go : Rising k → in_block b rs ≡ of_kind k rs
    go (one q) = kind_is b k e (omega arith) (λ z. omega arith) rs i
    go (four q) = kind_is b k e (omega arith) (λ z. omega arith) rs i
    go (five q) = kind_is b k e (omega arith) (λ z. omega arith) rs i

single_law : (b k : ℕ) → b ≡ 2 * k → Single k → (rs : List Row) → every is_item rs ≡ true → runs (in_block b rs) ≡ at_most_one k rs
single_law b k e p rs i = ap runs (go p) ∙ single_run k p (of_kind k rs) (all_kind k rs i)
  where
    go : Single k → in_block b rs ≡ of_kind k rs
    go (three q) = kind_is b k e (omega arith) (λ z. omega arith) rs i
    go (six q) = kind_is b k e (omega arith) (λ z. omega arith) rs i

excess_law : (b side : ℕ) → b ≡ 4 + side → side < 2 → (rs : List Row) → every is_item rs ≡ true → runs (in_block b rs) ≡ (ranked side rs && named_once side rs)
excess_law b side e l rs i =
    ap runs (block_is b (4 + side) (λ r. eqb r.kind 2 && eqb r.side side) e (in_excess side l) rs i)
    ∙ two_run (excess_of side rs) (every_only (λ r. eqb r.kind 2 && eqb r.side side) (of_one 2) is_item (λ r _ y. (both_true (eqb r.kind 2) (eqb r.side side) y).0) rs i)

-- an item of a place has a kind of at most 9
up_to_nine : (r : Row) → 7 ≤ r.kind → Kind r → is_placing r ≡ true
up_to_nine r h (rising (one e)) = absurd (omega arith)
up_to_nine r h (rising (four e)) = absurd (omega arith)
up_to_nine r h (rising (five e)) = absurd (omega arith)
up_to_nine r h (named e l) = absurd (omega arith)
up_to_nine r h (single (three e)) = absurd (omega arith)
up_to_nine r h (single (six e)) = absurd (omega arith)
up_to_nine r h (placed l m) = both (leb 7 r.kind) (leb r.kind 9) (le-leb 7 r.kind l) (le-leb r.kind 9 m)

-- what stands in a row after a line, stands in a row
pub in_a_row_holds : (p : Row → Row → Bool) (h : Row) (rs : List Row) → each_next p h rs ≡ true → in_a_row p rs ≡ true
in_a_row_holds p h [] e = refl
in_a_row_holds p h (r ∷ rs) e = (next_split p h r rs e).1

one_place_holds : (rs : List Row) → one_place_of (placing rs) ≡ one_place rs
one_place_holds rs = simp (among 7 (omega arith), among 8 (omega arith), among 9 (omega arith))
  where
    among : (k : ℕ) → 7 ≤ k → of_kind k (placing rs) ≡ of_kind k rs
    among k h = only_among (of_one k) (λ r. leb 7 r.kind) (λ r e. let q = eqb-true r.kind k e in le-leb 7 r.kind (omega arith)) rs

place_law : (b : ℕ) → b ≡ 14 → (h : Row) (rs : List Row) → every is_item rs ≡ true → each_next not_before h rs ≡ true → runs (in_block b rs) ≡ one_place rs
place_law b e h rs i o =
    ap runs (block_is b 14 (λ r. leb 7 r.kind) e (λ r _. in_place r) rs i)
    ∙ place_run (placing rs)
    (every_only (λ r. leb 7 r.kind) is_placing is_item (λ r a y. up_to_nine r (leb-true 7 r.kind y) (kind_of r a)) rs i)
    (in_a_row_holds (up_by (λ r. r.kind)) h (placing rs) (up_only (λ r. r.kind) (λ r. leb 7 r.kind) h rs (next_imply not_before (up_by (λ r. r.kind)) kind_up h rs o)))
    ∙ one_place_holds rs

pub rule_law : (h : Row) (rs : List Row) → every is_item rs ≡ true → each_next not_before h rs ≡ true → (b : ℕ) (c : Rule b) → runs (in_block b rs) ≡ ruled c rs
rule_law h rs i o b (rise k p e) = rising_law b k e p rs i
rule_law h rs i o b (name side l e) = excess_law b side e l rs i
rule_law h rs i o b (alone k p e) = single_law b k e p rs i
rule_law h rs i o b (place e) = place_law b e h rs i o

-- ---- all blocks
pub rule_pos : (b : ℕ) → Rule b → 0 < b
rule_pos b (rise k (one q) e) = omega arith
rule_pos b (rise k (four q) e) = omega arith
rule_pos b (rise k (five q) e) = omega arith
rule_pos b (name side l e) = omega arith
rule_pos b (alone k (three q) e) = omega arith
rule_pos b (alone k (six q) e) = omega arith
rule_pos b (place e) = omega arith

-- a block has a rule, or no items
pub rule_or_none : (b : ℕ) (rs : List Row) → every is_item rs ≡ true → Rule b ⊎ (in_block b rs ≡ [])
rule_or_none b [] i = inr (unfold only in refl)
rule_or_none b (r ∷ rs) i =
    let a = every_split is_item r rs i in
    by_test (eqb (block r) b)
    (λ y. inl (subst Rule (eqb-true (block r) b y) (rule_of r a.0)))
    (λ n. more n (rule_or_none b rs a.1))
  where
    more : eqb (block r) b ≡ false → Rule b ⊎ (in_block b rs ≡ []) → Rule b ⊎ (in_block b (r ∷ rs) ≡ [])
    more n (inl c) = inl c
    more n (inr e) = inr (only_no (λ t. eqb (block t) b) r rs n ∙ e)
