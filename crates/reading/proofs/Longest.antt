-- No sheet has more than 166 lines, its header among them. Assumes nothing.
use mathlib.Core.Path.{◌≡◌, refl, sym, ap, ◌∙◌}
use mathlib.Core.Bool.{Bool, true, false, not, ◌&&◌}
use mathlib.Core.List.{List, [], ◌∷◌}
use Prim.Native.Nat.{ℕ, zero, suc, ◌+◌, ◌-◌, ◌*◌, ◌≤◌, ◌<◌}
use native.Mathlib.Nat.{le_trans}
use native.Mathlib.Omega.{arith}
use borrow.Author.Tests.{eqb-true, eq-eqb, ltb-true, leb-true}
use lib.Dec.{eqb, ltb}
use lib.ListN.{length}
use Rattle.lists.specs.Counting.{count_to}
use Rattle.lists.proofs.Bools.{both_true, right_true}
use Rattle.lists.proofs.Counting.{count_le, count_more}
use Rattle.lines.specs.declared.Row.{Row}
use Rattle.items.specs.Items.{is_item}
use Rattle.items.proofs.View.{PlayerRow, item_kind, item_player, either}
use Rattle.reading.specs.Rules.{every, each_next, in_a_row, earlier, of_kind, excess_of, none_twice, at_most_one, as_many, is_body, is_header, is_sheet}
use Rattle.reading.proofs.Body.{Body, body_view}
use Rattle.reading.proofs.All.{All, no_more, one_more, all_so}
use Rattle.reading.proofs.Lists.{all_kept}
use Rattle.reading.proofs.Parts.{every_all, in_some, by_parts}

-- ---- players that strictly rise
-- the players one after the other, from 1 to 40
place : Row → ℕ
place r = 20 * r.side + r.number

place_rises : (r t : Row) → PlayerRow r → PlayerRow t → earlier r t ≡ true → place r < place t
unfolding place
place_rises r t p q e =
    either (ltb r.side t.side) (eqb r.side t.side && ltb r.number t.number) e
    (λ h. omega (arith, ltb-true r.side t.side h))
    (λ h. let b = both_true (eqb r.side t.side) (ltb r.number t.number) h in omega (arith, eqb-true r.side t.side b.0, ltb-true r.number t.number b.1))

rising_from : (r : Row) (rs : List Row) → All PlayerRow (r ∷ rs) → each_next earlier r rs ≡ true → length rs + place r ≤ 40
unfolding each_next place
rising_from r [] (one_more p no_more) e = omega arith
rising_from r (t ∷ rs) (one_more p (one_more q a)) e =
    let b = both_true (earlier r t) (each_next earlier t rs) e in
    omega (arith, place_rises r t p q b.0, rising_from t rs (one_more q a) b.1)

rising : (rs : List Row) → All PlayerRow rs → in_a_row earlier rs ≡ true → length rs ≤ 40
unfolding place
rising [] a e = omega arith
rising (r ∷ rs) (one_more p a) e = omega (arith, rising_from r rs (one_more p a) e)

-- ---- players of a side, none of them twice
-- a line has the number
numbered : List Row → ℕ → Bool
numbered rs n = not (every (λ t. not (eqb t.number n)) rs)

-- one more line
numbered_more : (r : Row) (rs : List Row) (n : ℕ) → numbered rs n ≡ true → numbered (r ∷ rs) n ≡ true
unfolding numbered every
numbered_more r rs n = go (not (eqb r.number n)) (every (λ t. not (eqb t.number n)) rs)
  where
    go : (a b : Bool) → not b ≡ true → not (a && b) ≡ true
    go true b e = e
    go false b e = refl

numbered_here : (r : Row) (rs : List Row) (n : ℕ) → r.number ≡ n → numbered (r ∷ rs) n ≡ true
unfolding numbered every
numbered_here r rs n e = ap (λ (b : Bool). not (not b && every (λ t. not (eqb t.number n)) rs)) (eq-eqb r.number n e)

-- as many numbers as lines
numbers_of : (rs : List Row) → All PlayerRow rs → none_twice rs ≡ true → length rs ≤ count_to 20 (λ k. numbered rs (suc k))
unfolding none_twice
numbers_of [] a e = omega arith
numbers_of (r ∷ rs) (one_more p a) e =
    let b = both_true (every (λ t. not (eqb t.number r.number)) rs) (none_twice rs) e in
    let here : suc (r.number - 1) ≡ r.number = omega arith in
    let new : numbered rs (suc (r.number - 1)) ≡ false = ap (numbered rs) here ∙ unfold numbered in ap not b.0 in
    omega (
      arith,
      numbers_of rs a b.1,
      count_more 20 (λ k. numbered rs (suc k)) (λ k. numbered (r ∷ rs) (suc k)) (λ k l. numbered_more r rs (suc k)) (r.number - 1) (omega arith) new
          (numbered_here r rs (suc (r.number - 1)) (sym here)),
    )

once : (rs : List Row) → All PlayerRow rs → none_twice rs ≡ true → length rs ≤ 20
once rs a e = le_trans (numbers_of rs a e) (count_le 20 (λ k. numbered rs (suc k)))

-- ---- the parts
abbrev kind_is : ℕ → Row → Bool
kind_is k r = eqb r.kind k

abbrev excess_is : ℕ → Row → Bool
excess_is side r = eqb r.kind 2 && eqb r.side side

parts : List (Row → Bool)
parts = kind_is 1 ∷ excess_is 0 ∷ excess_is 1 ∷ kind_is 3 ∷ kind_is 4 ∷ kind_is 5 ∷ kind_is 6 ∷ kind_is 7 ∷ kind_is 8 ∷ kind_is 9 ∷ []

in_parts : (k s n v : ℕ) → 1 ≤ k → k ≤ 9 → (k ≤ 5 → s < 2) → in_some parts (record { kind = k; side = s; number = n; value = v }) ≡ true
unfolding parts
in_parts zero s n v a b h = absurd (omega arith)
in_parts (suc zero) s n v a b h = refl
in_parts (suc (suc zero)) zero n v a b h = refl
in_parts (suc (suc zero)) (suc zero) n v a b h = refl
in_parts (suc (suc zero)) (suc (suc s)) n v a b h = absurd (omega (arith, h (omega arith)))
in_parts (suc (suc (suc zero))) s n v a b h = refl
in_parts (suc (suc (suc (suc zero)))) s n v a b h = refl
in_parts (suc (suc (suc (suc (suc zero))))) s n v a b h = refl
in_parts (suc (suc (suc (suc (suc (suc zero)))))) s n v a b h = refl
in_parts (suc (suc (suc (suc (suc (suc (suc zero))))))) s n v a b h = refl
in_parts (suc (suc (suc (suc (suc (suc (suc (suc zero)))))))) s n v a b h = refl
in_parts (suc (suc (suc (suc (suc (suc (suc (suc (suc zero))))))))) s n v a b h = refl
in_parts (suc (suc (suc (suc (suc (suc (suc (suc (suc (suc k)))))))))) s n v a b h = absurd (omega arith)

item_in_parts : (r : Row) → is_item r ≡ true → in_some parts r ≡ true
item_in_parts r e = in_parts r.kind r.side r.number r.value (item_kind r e).0 (item_kind r e).1 (λ h. (item_player r e h).side)

-- ---- all lines
pub body_length : (rs : List Row) → is_body rs ≡ true → length rs ≤ 165
unfolding parts
body_length rs e =
    let few : (k : ℕ) → at_most_one k rs ≡ true → length (of_kind k rs) ≤ 1 = λ k. leb-true (length (of_kind k rs)) 1 in
    let alike : (k : ℕ) → as_many 7 k rs ≡ true → length (of_kind 7 rs) ≡ length (of_kind k rs) = λ k. eqb-true (length (of_kind 7 rs)) (length (of_kind k rs)) in
    omega (
      arith,
      by_parts parts (all_so item_in_parts items),
      rising (of_kind 1 rs) (players 1 (omega arith)) b.verdicts,
      once (excess_of 0 rs) (excess 0) b.home_once,
      once (excess_of 1 rs) (excess 1) b.away_once,
      few 3 b.one_kicker,
      rising (of_kind 4 rs) (players 4 (omega arith)) b.leaving,
      rising (of_kind 5 rs) (players 5 (omega arith)) b.moved,
      few 6 b.one_judgment,
      few 7 b.one_x,
      alike 8 b.y_too,
      alike 9 b.third_too,
    )
  where
    b : Body rs
    b = body_view rs e

    items : All (λ r. is_item r ≡ true) rs
    items = every_all is_item rs b.items

    players : (k : ℕ) → k ≤ 5 → All PlayerRow (of_kind k rs)
    players k h = all_kept (kind_is k) (λ r i t. item_player r i (omega (arith, eqb-true r.kind k t))) items

    excess : (side : ℕ) → All PlayerRow (excess_of side rs)
    excess side = all_kept (excess_is side) (λ r i t. item_player r i (omega (arith, eqb-true r.kind 2 (both_true (eqb r.kind 2) (eqb r.side side) t).0))) items

pub longest : (rows : List Row) → is_sheet rows ≡ true → length rows ≤ 166
longest [] e = omega arith
longest (r ∷ rs) e = omega (arith, body_length rs (right_true (is_header r (length rs)) (is_body rs) e))
