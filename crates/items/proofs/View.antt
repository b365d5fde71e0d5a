-- What the numbers of a line are where they are those of an item. Assumes nothing.
use mathlib.Core.Path.{◌≡◌}
use mathlib.Core.Bool.{Bool, true, false, ◌&&◌, ◌||◌, true≢false}
use Prim.Native.Nat.{ℕ, ◌≤◌, ◌<◌}
use native.Mathlib.Omega.{arith}
use borrow.Author.Tests.{eqb-true, ltb-true, leb-true}
use lib.Dec.{eqb, ltb, leb}
use Rattle.lists.proofs.Bools.{both_true, by_test}
use Rattle.lines.specs.declared.Row.{Row}
use Rattle.items.specs.Items.{is_player, is_the_ball, is_judged, is_verdict, is_placed, is_item}

-- a player's side and number
pub record PlayerRow (r : Row) : Type 0 where
  pub side : r.side < 2
  pub least : 1 ≤ r.number
  pub most : r.number ≤ 20

-- a judgment's
pub data JudgedRow (r : Row) : Type 0 where
  for_side : r.side < 2 → 1 ≤ r.number → r.number ≤ 4 → JudgedRow r
  for_none : r.side ≡ 2 → r.number ≡ 5 → JudgedRow r

-- those of whom a place is for
pub data WhoRow (r : Row) : Type 0 where
  a_player : PlayerRow r → WhoRow r
  the_ball : r.side ≡ 2 → r.number ≡ 0 → WhoRow r

-- an item's, by its kind
pub data ItemRow (r : Row) : Type 0 where
  verdict_row : r.kind ≡ 1 → PlayerRow r → 1 ≤ r.value → r.value ≤ 3 → ItemRow r
  excess_row : r.kind ≡ 2 → PlayerRow r → ItemRow r
  player_row : 3 ≤ r.kind → r.kind ≤ 5 → PlayerRow r → r.value ≡ 0 → ItemRow r
  judged_row : r.kind ≡ 6 → JudgedRow r → r.value ≡ 0 → ItemRow r
  placed_row : 7 ≤ r.kind → r.kind ≤ 9 → WhoRow r → is_placed r.value ≡ true → ItemRow r

-- ---- from the tests
-- the second of two where the first fails
or_else : (a b : Bool) → (a || b) ≡ true → a ≡ false → b ≡ true
or_else true b e f = absurd (true≢false f)
or_else false b e f = e

pub either {ℓ} : {C : Type ℓ} (a b : Bool) → (a || b) ≡ true → (a ≡ true → C) → (b ≡ true → C) → C
either a b e f g = by_test a f (λ n. g (or_else a b e n))

-- within two bounds
between : (a n b : ℕ) → (leb a n && leb n b) ≡ true → (a ≤ n) × (n ≤ b)
between a n b e = let p = both_true (leb a n) (leb n b) e in (leb-true a n p.0, leb-true n b p.1)

player_view : (r : Row) → is_player r ≡ true → PlayerRow r
player_view r e =
    let p = both_true (ltb r.side 2) (leb 1 r.number && leb r.number 20) e in
    let q = between 1 r.number 20 p.1 in
    record { side = ltb-true r.side 2 p.0; least = q.0; most = q.1 }

judged_view : (r : Row) → is_judged r ≡ true → JudgedRow r
judged_view r e =
    either (ltb r.side 2 && (leb 1 r.number && leb r.number 4)) (eqb r.side 2 && eqb r.number 5) e
    (λ h. let p = both_true (ltb r.side 2) (leb 1 r.number && leb r.number 4) h in
    let q = between 1 r.number 4 p.1 in
    for_side (ltb-true r.side 2 p.0) q.0 q.1)
    (λ h. let p = both_true (eqb r.side 2) (eqb r.number 5) h in for_none (eqb-true r.side 2 p.0) (eqb-true r.number 5 p.1))

who_view : (r : Row) → (is_player r || is_the_ball r) ≡ true → WhoRow r
who_view r e =
    either (is_player r) (is_the_ball r) e (λ h. a_player (player_view r h))
    (λ h. let p = both_true (eqb r.side 2) (eqb r.number 0) h in the_ball (eqb-true r.side 2 p.0) (eqb-true r.number 0 p.1))

pub item_view : (r : Row) → is_item r ≡ true → ItemRow r
unfolding is_item
item_view r e =
    either verdict (excess || (player || (judged || placed))) e
    (λ h. let p = both_true (eqb r.kind 1) (is_player r && is_verdict r.value) h in
    let q = both_true (is_player r) (is_verdict r.value) p.1 in
    let v = between 1 r.value 3 q.1 in
    verdict_row (eqb-true r.kind 1 p.0) (player_view r q.0) v.0 v.1)
    (λ h₁. either excess (player || (judged || placed)) h₁
    (λ h. let p = both_true (eqb r.kind 2) (is_player r) h in excess_row (eqb-true r.kind 2 p.0) (player_view r p.1))
    (λ h₂. either player (judged || placed) h₂
    (λ h. let p = both_true (leb 3 r.kind && leb r.kind 5) (is_player r && eqb r.value 0) h in
    let k = between 3 r.kind 5 p.0 in
    let q = both_true (is_player r) (eqb r.value 0) p.1 in
    player_row k.0 k.1 (player_view r q.0) (eqb-true r.value 0 q.1))
    (λ h₃. either judged placed h₃
    (λ h. let p = both_true (eqb r.kind 6) (is_judged r && eqb r.value 0) h in
    let q = both_true (is_judged r) (eqb r.value 0) p.1 in
    judged_row (eqb-true r.kind 6 p.0) (judged_view r q.0) (eqb-true r.value 0 q.1))
    (λ h. let p = both_true (leb 7 r.kind && leb r.kind 9) ((is_player r || is_the_ball r) && is_placed r.value) h in
    let k = between 7 r.kind 9 p.0 in
    let q = both_true (is_player r || is_the_ball r) (is_placed r.value) p.1 in
    placed_row k.0 k.1 (who_view r q.0) q.1))))
  where
    verdict : Bool
    verdict = eqb r.kind 1 && (is_player r && is_verdict r.value)

    excess : Bool
    excess = eqb r.kind 2 && is_player r

    player : Bool
    player = (leb 3 r.kind && leb r.kind 5) && (is_player r && eqb r.value 0)

    judged : Bool
    judged = eqb r.kind 6 && (is_judged r && eqb r.value 0)

    placed : Bool
    placed = (leb 7 r.kind && leb r.kind 9) && ((is_player r || is_the_ball r) && is_placed r.value)

-- ---- what follows
number_in : (r : Row) → ItemRow r → r.number ≤ 20
number_in r (verdict_row k p a b) = p.most
number_in r (excess_row k p) = p.most
number_in r (player_row a b p v) = p.most
number_in r (judged_row k (for_side s a b) v) = omega arith
number_in r (judged_row k (for_none s n) v) = omega arith
number_in r (placed_row a b (a_player p) v) = p.most
number_in r (placed_row a b (the_ball s n) v) = omega arith

kind_in : (r : Row) → ItemRow r → (1 ≤ r.kind) × (r.kind ≤ 9)
kind_in r (verdict_row k p a b) = (omega arith, omega arith)
kind_in r (excess_row k p) = (omega arith, omega arith)
kind_in r (player_row a b p v) = (omega arith, omega arith)
kind_in r (judged_row k j v) = (omega arith, omega arith)
kind_in r (placed_row a b w v) = (omega arith, omega arith)

pub item_number : (r : Row) → is_item r ≡ true → r.number ≤ 20
item_number r e = number_in r (item_view r e)

pub item_kind : (r : Row) → is_item r ≡ true → (1 ≤ r.kind) × (r.kind ≤ 9)
item_kind r e = kind_in r (item_view r e)

-- a player's below kind 6
pub item_player : (r : Row) → is_item r ≡ true → r.kind ≤ 5 → PlayerRow r
item_player r e h = go (item_view r e)
  where
    go : ItemRow r → PlayerRow r
    go (verdict_row k p a b) = p
    go (excess_row k p) = p
    go (player_row a b p v) = p
    go (judged_row k j v) = absurd (omega arith)
    go (placed_row a b w v) = absurd (omega arith)
