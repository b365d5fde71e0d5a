-- The kinds of items, and the eight blocks that they come in: by the rule for the lines of a block. Assumes nothing.
use mathlib.Core.Path.{◌≡◌, refl}
use mathlib.Core.Bool.{Bool, true, false, ◌&&◌, ◌||◌}
use Prim.Native.Nat.{ℕ, ◌+◌, ◌*◌, ◌≤◌, ◌<◌}
use native.Mathlib.Omega.{arith}
use borrow.Author.Tests.{eqb-true, eqb-false, leb-true, ltb-true, eq-eqb, le-leb}
use lib.Dec.{eqb, ltb, leb}
use Rattle.lists.proofs.Bools.{both, both_true, by_test, same_test}
use Rattle.lines.specs.declared.Row.{Row}
use Rattle.items.specs.Items.{is_item, is_player, is_judged, is_verdict}
use Rattle.reading.specs.Walk.{block}
use Rattle.reading.proofs.Blocks.{Blocked, excess, other, blocked}

-- ---- kinds
-- those in which players rise
pub data Rising (k : ℕ) : Type 0 where
  one : k ≡ 1 → Rising k
  four : k ≡ 4 → Rising k
  five : k ≡ 5 → Rising k

-- those of one line at most
pub data Single (k : ℕ) : Type 0 where
  three : k ≡ 3 → Single k
  six : k ≡ 6 → Single k

-- the kind of an item
pub data Kind (r : Row) : Type 0 where
  rising : Rising r.kind → Kind r
  named : r.kind ≡ 2 → r.side < 2 → Kind r
  single : Single r.kind → Kind r
  placed : 7 ≤ r.kind → r.kind ≤ 9 → Kind r

either {ℓ} : {C : Type ℓ} (a b : Bool) → (a ≡ true → C) → (b ≡ true → C) → (a || b) ≡ true → C
either true b f g e = f refl
either false b f g e = g e

pub kind_of : (r : Row) → is_item r ≡ true → Kind r
unfolding is_item
kind_of r =
    let k : ℕ = r.kind in
    either (eqb k 1 && (is_player r && is_verdict r.value)) _
    (λ e. rising (one (eqb-true k 1 (both_true (eqb k 1) _ e).0)))
    (either (eqb k 2 && is_player r) _
    (λ e. let b = both_true (eqb k 2) (is_player r) e in named (eqb-true k 2 b.0) (ltb-true r.side 2 (both_true (ltb r.side 2) _ b.1).0))
    (either ((leb 3 k && leb k 5) && (is_player r && eqb r.value 0)) _
    (λ e. let b = both_true (leb 3 k) (leb k 5) (both_true (leb 3 k && leb k 5) _ e).0 in to_five (leb-true 3 k b.0) (leb-true k 5 b.1))
    (either (eqb k 6 && (is_judged r && eqb r.value 0)) _
    (λ e. single (six (eqb-true k 6 (both_true (eqb k 6) _ e).0)))
    (λ e. let b = both_true (leb 7 k) (leb k 9) (both_true (leb 7 k && leb k 9) _ e).0 in placed (leb-true 7 k b.0) (leb-true k 9 b.1)))))
  where
    to_five : 3 ≤ r.kind → r.kind ≤ 5 → Kind r
    to_five h g =
        by_test (eqb r.kind 3) (λ e. single (three (eqb-true r.kind 3 e)))
        (λ a. by_test (eqb r.kind 4) (λ e. rising (four (eqb-true r.kind 4 e)))
        (λ b. rising (five (rest r.kind h g (eqb-false r.kind 3 a) (eqb-false r.kind 4 b)))))
      where
        rest : (k : ℕ) → 3 ≤ k → k ≤ 5 → (k ≡ 3 → ⊥) → (k ≡ 4 → ⊥) → k ≡ 5
        rest k l m a b = omega arith

-- ---- blocks
-- a block of items, by its rule
pub data Rule (b : ℕ) : Type 0 where
  rise : (k : ℕ) → Rising k → b ≡ 2 * k → Rule b
  name : (side : ℕ) → side < 2 → b ≡ 4 + side → Rule b
  alone : (k : ℕ) → Single k → b ≡ 2 * k → Rule b
  place : b ≡ 14 → Rule b

pub rule_of : (r : Row) → is_item r ≡ true → Rule (block r)
rule_of r h = go (kind_of r h) (blocked r)
  where
    double : (k : ℕ) → r.kind ≡ k → k < 7 → (k ≡ 2 → ⊥) → Blocked r (block r) → block r ≡ 2 * k
    double k e l n (excess p q) = absurd (n (omega arith))
    double k e l n (other p q) = omega arith

    go : Kind r → Blocked r (block r) → Rule (block r)
    go (rising (one e)) b = rise 1 (one refl) (double 1 e (omega arith) (λ z. omega arith) b)
    go (rising (four e)) b = rise 4 (four refl) (double 4 e (omega arith) (λ z. omega arith) b)
    go (rising (five e)) b = rise 5 (five refl) (double 5 e (omega arith) (λ z. omega arith) b)
    go (named e l) (excess p q) = name r.side l (omega arith)
    go (named e l) (other p q) = absurd (p e)
    go (single (three e)) b = alone 3 (three refl) (double 3 e (omega arith) (λ z. omega arith) b)
    go (single (six e)) b = alone 6 (six refl) (double 6 e (omega arith) (λ z. omega arith) b)
    go (placed l m) (excess p q) = absurd (omega arith)
    go (placed l m) (other p q) = place (omega arith)

-- ---- which lines are in a block
pub in_double : (k : ℕ) → k < 7 → (k ≡ 2 → ⊥) → (r : Row) → eqb (block r) (2 * k) ≡ eqb r.kind k
in_double k l n r = go (blocked r)
  where
    go : Blocked r (block r) → eqb (block r) (2 * k) ≡ eqb r.kind k
    go (excess p q) =
        same_test (eqb (block r) (2 * k)) (eqb r.kind k)
        (λ e. let g = eqb-true (block r) (2 * k) e in absurd (n (omega arith)))
        (λ e. let g = eqb-true r.kind k e in absurd (n (omega arith)))
    go (other p q) =
        same_test (eqb (block r) (2 * k)) (eqb r.kind k)
        (λ e. let g = eqb-true (block r) (2 * k) e in eq-eqb r.kind k (omega arith))
        (λ e. let g = eqb-true r.kind k e in eq-eqb (block r) (2 * k) (omega arith))

-- a side's, in kind 2
side_low : (r : Row) → r.kind ≡ 2 → Kind r → r.side < 2
side_low r e (rising (one f)) = absurd (omega arith)
side_low r e (rising (four f)) = absurd (omega arith)
side_low r e (rising (five f)) = absurd (omega arith)
side_low r e (named f l) = l
side_low r e (single (three f)) = absurd (omega arith)
side_low r e (single (six f)) = absurd (omega arith)
side_low r e (placed l m) = absurd (omega arith)

pub in_excess : (s : ℕ) → s < 2 → (r : Row) → is_item r ≡ true → eqb (block r) (4 + s) ≡ (eqb r.kind 2 && eqb r.side s)
in_excess s l r h = same_test (eqb (block r) (4 + s)) (eqb r.kind 2 && eqb r.side s) (λ e. forth (blocked r) (eqb-true (block r) (4 + s) e)) (λ e. back (blocked r) (both_true (eqb r.kind 2) (eqb r.side s) e))
  where
    forth : Blocked r (block r) → block r ≡ 4 + s → (eqb r.kind 2 && eqb r.side s) ≡ true
    forth (excess p q) e = both (eqb r.kind 2) (eqb r.side s) (eq-eqb r.kind 2 p) (eq-eqb r.side s (omega (arith, side_low r p (kind_of r h))))
    forth (other p q) e = absurd (p (omega arith))

    back : Blocked r (block r) → (eqb r.kind 2 ≡ true) × (eqb r.side s ≡ true) → eqb (block r) (4 + s) ≡ true
    back (excess p q) e = let g = eqb-true r.side s e.1 in eq-eqb (block r) (4 + s) (omega arith)
    back (other p q) e = absurd (p (eqb-true r.kind 2 e.0))

pub in_place : (r : Row) → eqb (block r) 14 ≡ leb 7 r.kind
in_place r = go (blocked r)
  where
    go : Blocked r (block r) → eqb (block r) 14 ≡ leb 7 r.kind
    go (excess p q) =
        same_test (eqb (block r) 14) (leb 7 r.kind)
        (λ e. let g = eqb-true (block r) 14 e in absurd (omega arith))
        (λ e. let g = leb-true 7 r.kind e in absurd (omega arith))
    go (other p q) =
        same_test (eqb (block r) 14) (leb 7 r.kind)
        (λ e. let g = eqb-true (block r) 14 e in le-leb 7 r.kind (omega arith))
        (λ e. let g = leb-true 7 r.kind e in eq-eqb (block r) 14 (omega arith))
