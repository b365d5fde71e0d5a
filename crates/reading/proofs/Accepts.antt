-- The walk line by line accepts exactly the lists that the clauses describe. Assumes nothing.
use mathlib.Core.Path.{◌≡◌, refl, sym, ap, ◌∙◌}
use mathlib.Core.Bool.{true, ◌&&◌}
use mathlib.Core.List.{List, [], ◌∷◌}
use mathlib.Core.Logic.{◌⊎◌, inl, inr}
use Prim.Native.Nat.{ℕ, zero, suc, ◌<◌}
use native.Mathlib.Omega.{arith}
use borrow.Author.Tests.{lt-ltb}
use lib.Dec.{ltb}
use Rattle.lists.proofs.Bools.{both, both_true, or_left, same_test}
use Rattle.lines.specs.declared.Row.{Row}
use Rattle.items.specs.Items.{is_item}
use Rattle.reading.specs.Rules.{every, each_next, not_before, in_order, players_rise, ranked, named_once, at_most_one, is_body}
use Rattle.reading.specs.Walk.{block, ends, accepts}
use Rattle.reading.proofs.Body.{body_view}
use Rattle.reading.proofs.Only.{every_split, next_join}
use Rattle.reading.proofs.Blocks.{Blocked, excess, other, blocked}
use Rattle.reading.proofs.ItemKinds.{one, four, five, three, six, Rule, rise, name, alone, place, rule_of}
use Rattle.reading.proofs.Runs.{run_from, run_end, runs, in_block}
use Rattle.reading.proofs.Fits.{Fits, fits_accepts, accepts_fits}
use Rattle.reading.proofs.ByRule.{ruled, in_a_row_holds, rule_law, rule_pos, rule_or_none}

-- ---- the clauses
-- items in order, and each block by its rule
record ByBlocks (rs : List Row) : Type 0 where
  items : every is_item rs ≡ true
  order : in_order rs ≡ true
  rules : (b : ℕ) (c : Rule b) → ruled c rs ≡ true

body_test : (rs : List Row) → ByBlocks rs → is_body rs ≡ true
unfolding is_body
body_test rs f =
    let s0 = both_true (ranked 0 rs) (named_once 0 rs) (f.rules 4 (name 0 (omega arith) refl)) in
    let s1 = both_true (ranked 1 rs) (named_once 1 rs) (f.rules 5 (name 1 (omega arith) refl)) in
    both (every is_item rs) _ f.items
    (both (in_order rs) _ f.order
    (both (players_rise 1 rs) _ (f.rules 2 (rise 1 (one refl) refl))
    (both (ranked 0 rs) _ s0.0 (both (ranked 1 rs) _ s1.0
    (both (named_once 0 rs) _ s0.1 (both (named_once 1 rs) _ s1.1
    (both (at_most_one 3 rs) _ (f.rules 6 (alone 3 (three refl) refl))
    (both (players_rise 4 rs) _ (f.rules 8 (rise 4 (four refl) refl))
    (both (players_rise 5 rs) _ (f.rules 10 (rise 5 (five refl) refl))
    (both (at_most_one 6 rs) _ (f.rules 12 (alone 6 (six refl) refl)) (f.rules 14 (place refl))))))))))))

test_body : (rs : List Row) → is_body rs ≡ true → ByBlocks rs
test_body rs t =
    let v = body_view rs t in
    let rules : (b : ℕ) (c : Rule b) → ruled c rs ≡ true =
    λ b c. elim c as (λ (k : Rule b). ruled k rs ≡ true) [
      | rise k p e ↦ elim p [ one q ↦ ap (λ (x : ℕ). players_rise x rs) q ∙ v.verdicts | four q ↦ ap (λ (x : ℕ). players_rise x rs) q ∙ v.leaving | five q ↦ ap (λ (x : ℕ). players_rise x rs) q ∙ v.moved ]
      | name side l e ↦ by_side side l (both (ranked 0 rs) (named_once 0 rs) v.home_ranks v.home_once) (both (ranked 1 rs) (named_once 1 rs) v.away_ranks v.away_once)
      | alone k p e ↦ elim p [ three q ↦ ap (λ (x : ℕ). at_most_one x rs) q ∙ v.one_kicker | six q ↦ ap (λ (x : ℕ). at_most_one x rs) q ∙ v.one_judgment ]
      | place e ↦ v.place
    ] in
    record { items = v.items; order = v.order; rules = rules }
  where
    by_side : (side : ℕ) → side < 2 → (ranked 0 rs && named_once 0 rs) ≡ true → (ranked 1 rs && named_once 1 rs) ≡ true → (ranked side rs && named_once side rs) ≡ true
    by_side zero l a b = a
    by_side (suc zero) l a b = b
    by_side (suc (suc s)) l a b = absurd (omega arith)

-- ---- after a header
module _ (h : Row) (k : h.kind ≡ 0) where
  -- its block is before all others
  block_zero : block h ≡ 0
  block_zero = go (blocked h)
    where
      go : Blocked h (block h) → block h ≡ 0
      go (excess p q) = absurd (omega arith)
      go (other p q) = omega arith

  -- and it is before all items
  before_item : (r : Row) → is_item r ≡ true → not_before h r ≡ true
  before_item r i = or_left (ltb h.kind r.kind) _ (lt-ltb h.kind r.kind (go (blocked r) (rule_pos (block r) (rule_of r i))))
    where
      go : Blocked r (block r) → 0 < block r → h.kind < r.kind
      go (excess p q) l = omega arith
      go (other p q) l = omega arith

  after_header : (rs : List Row) → every is_item rs ≡ true → in_order rs ≡ true → each_next not_before h rs ≡ true
  after_header [] i o = unfold each_next in refl
  after_header (r ∷ rs) i o = next_join not_before h r rs (before_item r (every_split is_item r rs i).0) o

  fits_body : (rs : List Row) → Fits h 0 rs → ByBlocks rs
  fits_body rs f =
      record {
        items = f.items;
        order = in_a_row_holds not_before h rs f.order;
        rules = λ b c. sym (rule_law h rs f.items f.order b c) ∙ f.later b (omega (arith, block_zero, rule_pos b c));
      }

  body_fits : (rs : List Row) → ByBlocks rs → Fits h 0 rs
  body_fits rs f = record { items = f.items; order = order; first = first (rule_or_none (block h) rs f.items); later = λ b l. later b (rule_or_none b rs f.items) }
    where
      order : each_next not_before h rs ≡ true
      order = after_header rs f.items f.order

      ends_here : ends h ≡ true
      ends_here = simp k

      first : Rule (block h) ⊎ (in_block (block h) rs ≡ []) → run_from h 0 (in_block (block h) rs) ≡ true
      first (inl c) = absurd (omega (arith, block_zero, rule_pos (block h) c))
      first (inr e) = ap (run_from h 0) e ∙ run_end h 0 ∙ ends_here

      later : (b : ℕ) → Rule b ⊎ (in_block b rs ≡ []) → runs (in_block b rs) ≡ true
      later b (inl c) = rule_law h rs f.items order b c ∙ f.rules b c
      later b (inr e) = ap runs e

-- ---- the walk after a header
pub accepts_body : (h : Row) (rs : List Row) → h.kind ≡ 0 → accepts h 0 rs ≡ is_body rs
accepts_body h rs k =
    same_test (accepts h 0 rs) (is_body rs)
    (λ t. body_test rs (fits_body h k rs (accepts_fits h 0 rs t)))
    (λ t. fits_accepts h 0 rs (body_fits h k rs (test_body rs t)))
