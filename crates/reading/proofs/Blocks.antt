-- The block of a line: which lines have one block, and that blocks never fall. Assumes nothing.
use mathlib.Core.Path.{◌≡◌, refl, sym, ap, ◌∙◌}
use mathlib.Core.Bool.{Bool, true, false, not, ◌&&◌, ◌||◌, beq, cond, true≢false}
use Prim.Native.Nat.{ℕ, ◌+◌, ◌*◌, ◌≤◌, ◌<◌, min}
use native.Mathlib.Omega.{arith}
use borrow.Author.Tests.{eqb-true, eqb-false, eq-eqb, ne_eqb, leb-true, leb-false, ltb-true, le-leb}
use lib.Dec.{eqb, ltb, leb}
use Rattle.lists.proofs.Bools.{both, both_true, by_test, or_left, or_right, same_test}
use Rattle.lines.specs.declared.Row.{Row}
use Rattle.reading.specs.Rules.{not_before}
use Rattle.reading.specs.Walk.{block}

-- ---- the number of a block
-- of a line of kind 2, and of any other
pub data Blocked (r : Row) (b : ℕ) : Type 0 where
  excess : r.kind ≡ 2 → b ≡ 4 + min r.side 1 → Blocked r b
  other : (r.kind ≡ 2 → ⊥) → b ≡ min 14 (2 * r.kind) → Blocked r b

pub blocked : (r : Row) → Blocked r (block r)
unfolding block
blocked r = go (leb 7 r.kind) (eqb r.kind 2) (eqb r.side 0) refl refl refl
  where
    go : (p q s : Bool) → leb 7 r.kind ≡ p → eqb r.kind 2 ≡ q → eqb r.side 0 ≡ s → Blocked r (cond p 14 (cond q (cond s 4 5) (2 * r.kind)))
    go true q s ep eq es = let h = leb-true 7 r.kind ep in other (λ e. omega arith) (omega arith)
    go false true true ep eq es = let h = eqb-true r.side 0 es in excess (eqb-true r.kind 2 eq) (omega arith)
    go false true false ep eq es = excess (eqb-true r.kind 2 eq) (up r.side (eqb-false r.side 0 es))
      where
        up : (s : ℕ) → (s ≡ 0 → ⊥) → 5 ≡ 4 + min s 1
        up s n = omega arith
    go false false s ep eq es = let h = leb-false 7 r.kind ep in other (eqb-false r.kind 2 eq) (omega arith)

-- ---- which lines have one block
-- one kind, where 7, 8 and 9 are one
abbrev one_kind : ℕ → ℕ → Bool
one_kind a b = eqb a b || (leb 7 a && leb 7 b)

kinds_same : (a b : ℕ) → one_kind a b ≡ true → min a 7 ≡ min b 7
kinds_same a b e =
    by_test (eqb a b) (λ (t : eqb a b ≡ true). equal (eqb-true a b t))
    (λ (t : eqb a b ≡ false). let h = both_true (leb 7 a) (leb 7 b) (sym (ap (λ (z : Bool). z || (leb 7 a && leb 7 b)) t) ∙ e) in omega (arith, leb-true 7 a h.0, leb-true 7 b h.1))
  where
    equal : a ≡ b → min a 7 ≡ min b 7
    equal t = omega arith

same_kinds : (a b : ℕ) → min a 7 ≡ min b 7 → one_kind a b ≡ true
same_kinds a b e =
    by_test (eqb a b) (λ (t : eqb a b ≡ true). or_left (eqb a b) (leb 7 a && leb 7 b) t)
    (λ (t : eqb a b ≡ false). or_right (eqb a b) (leb 7 a && leb 7 b) (both (leb 7 a) (leb 7 b) (le-leb 7 a (high a b e (eqb-false a b t))) (le-leb 7 b (high b a (sym e) (λ z. eqb-false a b t (sym z))))))
  where
    high : (a b : ℕ) → min a 7 ≡ min b 7 → (a ≡ b → ⊥) → 7 ≤ a
    high a b e n = omega arith

-- both Home, or both not
abbrev one_side : ℕ → ℕ → Bool
one_side a b = beq (eqb a 0) (eqb b 0)

sides_same : (a b : ℕ) → one_side a b ≡ true → min a 1 ≡ min b 1
sides_same a b = go (eqb a 0) (eqb b 0) refl refl
  where
    up : (a b : ℕ) → (a ≡ 0 → ⊥) → (b ≡ 0 → ⊥) → min a 1 ≡ min b 1
    up a b x y = omega arith

    go : (s t : Bool) → eqb a 0 ≡ s → eqb b 0 ≡ t → beq s t ≡ true → min a 1 ≡ min b 1
    go true true p q h = omega (arith, eqb-true a 0 p, eqb-true b 0 q)
    go true false p q h = absurd (true≢false (sym h))
    go false true p q h = absurd (true≢false (sym h))
    go false false p q h = up a b (eqb-false a 0 p) (eqb-false b 0 q)

same_sides : (a b : ℕ) → min a 1 ≡ min b 1 → one_side a b ≡ true
same_sides a b e = go (eqb a 0) (eqb b 0) refl refl
  where
    off : (a b : ℕ) → min a 1 ≡ min b 1 → a ≡ 0 → (b ≡ 0 → ⊥) → ⊥
    off a b e x y = omega arith

    go : (s t : Bool) → eqb a 0 ≡ s → eqb b 0 ≡ t → beq s t ≡ true
    go true true p q = refl
    go true false p q = absurd (off a b e (eqb-true a 0 p) (eqb-false b 0 q))
    go false true p q = absurd (off b a (sym e) (eqb-true b 0 q) (eqb-false a 0 p))
    go false false p q = refl

pub one_block : (l r : Row) → ((eqb l.kind r.kind || (leb 7 l.kind && leb 7 r.kind)) && (not (eqb r.kind 2) || beq (eqb l.side 0) (eqb r.side 0))) ≡ eqb (block l) (block r)
one_block l r =
    same_test (one_kind l.kind r.kind && (not (eqb r.kind 2) || one_side l.side r.side)) (eqb (block l) (block r))
    (λ e. eq-eqb (block l) (block r) (forth (blocked l) (blocked r) (both_true (one_kind l.kind r.kind) (not (eqb r.kind 2) || one_side l.side r.side) e)))
    (λ e. back (blocked l) (blocked r) (eqb-true (block l) (block r) e))
  where
    forth : Blocked l (block l) → Blocked r (block r) → (one_kind l.kind r.kind ≡ true) × ((not (eqb r.kind 2) || one_side l.side r.side) ≡ true) → block l ≡ block r
    forth (excess p q) (excess s t) h =
        let m = sides_same l.side r.side (sym (ap (λ (z : Bool). not z || one_side l.side r.side) (eq-eqb r.kind 2 s)) ∙ h.1) in omega arith
    forth (excess p q) (other s t) h = let m = kinds_same l.kind r.kind h.0 in absurd (s (omega arith))
    forth (other p q) (excess s t) h = let m = kinds_same l.kind r.kind h.0 in absurd (p (omega arith))
    forth (other p q) (other s t) h = let m = kinds_same l.kind r.kind h.0 in omega arith

    back : Blocked l (block l) → Blocked r (block r) → block l ≡ block r → (one_kind l.kind r.kind && (not (eqb r.kind 2) || one_side l.side r.side)) ≡ true
    back (excess p q) (excess s t) e =
        both (one_kind l.kind r.kind) (not (eqb r.kind 2) || one_side l.side r.side) (same_kinds l.kind r.kind (omega arith)) (or_right (not (eqb r.kind 2)) (one_side l.side r.side) (same_sides l.side r.side (omega arith)))
    back (excess p q) (other s t) e = absurd (s (omega arith))
    back (other p q) (excess s t) e = absurd (p (omega arith))
    back (other p q) (other s t) e =
        both (one_kind l.kind r.kind) (not (eqb r.kind 2) || one_side l.side r.side) (same_kinds l.kind r.kind (omega arith)) (or_left (not (eqb r.kind 2)) (one_side l.side r.side) (ap not (ne_eqb r.kind 2 s)))

-- ---- blocks never fall
-- what `not_before` says
data Before (l r : Row) : Type 0 where
  lower : l.kind < r.kind → Before l r
  same : l.kind ≡ r.kind → (l.kind ≡ 2 → l.side ≤ r.side) → Before l r

before : (l r : Row) → not_before l r ≡ true → Before l r
before l r = go (ltb l.kind r.kind) (eqb l.kind r.kind) (eqb l.kind 2) (leb l.side r.side) refl refl refl refl
  where
    go : (p q two s : Bool) → ltb l.kind r.kind ≡ p → eqb l.kind r.kind ≡ q → eqb l.kind 2 ≡ two → leb l.side r.side ≡ s
        → (p || (q && (not two || s))) ≡ true → Before l r
    go true q two s ep eq et es h = lower (ltb-true l.kind r.kind ep)
    go false true true true ep eq et es h = same (eqb-true l.kind r.kind eq) (λ e. leb-true l.side r.side es)
    go false true true false ep eq et es h = absurd (true≢false (sym h))
    go false true false s ep eq et es h = same (eqb-true l.kind r.kind eq) (λ e. absurd (eqb-false l.kind 2 et e))
    go false false two s ep eq et es h = absurd (true≢false (sym h))

pub kind_up : (l r : Row) → not_before l r ≡ true → leb l.kind r.kind ≡ true
kind_up l r h = go (before l r h)
  where
    go : Before l r → leb l.kind r.kind ≡ true
    go (lower a) = le-leb l.kind r.kind (omega arith)
    go (same a b) = le-leb l.kind r.kind (omega arith)

pub block_up : (l r : Row) → not_before l r ≡ true → leb (block l) (block r) ≡ true
block_up l r h = le-leb (block l) (block r) (go (before l r h) (blocked l) (blocked r))
  where
    go : Before l r → Blocked l (block l) → Blocked r (block r) → block l ≤ block r
    go (lower a) (excess p q) (excess s t) = omega arith
    go (lower a) (excess p q) (other s t) = omega arith
    go (lower a) (other p q) (excess s t) = omega arith
    go (lower a) (other p q) (other s t) = omega arith
    go (same a b) (excess p q) (excess s t) = omega (arith, b p)
    go (same a b) (excess p q) (other s t) = absurd (s (omega arith))
    go (same a b) (other p q) (excess s t) = absurd (p (omega arith))
    go (same a b) (other p q) (other s t) = omega arith
