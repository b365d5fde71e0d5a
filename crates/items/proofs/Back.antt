-- The line of the item that a line is is that line. Assumes nothing.
use mathlib.Core.Path.{◌≡◌, refl, sym, ap, ap₂, ◌∙◌}
use mathlib.Core.Bool.{true}
use Prim.Native.Nat.{ℕ, zero, suc, ◌≤◌, ◌<◌}
use native.Mathlib.Omega.{arith}
use Rattle.game.specs.Codes.{positioning_code, side_code, judgment_code, judgment_side}
use Rattle.game.specs.declared.Side.{Side}
use Rattle.lines.specs.declared.Row.{Row}
use Rattle.sheet.specs.Rows.{row}
use Rattle.items.specs.Items.{who_side, who_number, row_of, is_placed, is_item, side_of, verdict_of, judgment_of, who_of, item_of}
use Rattle.items.proofs.View.{PlayerRow, JudgedRow, for_side, for_none, WhoRow, a_player, the_ball, ItemRow, verdict_row, excess_row, player_row, judged_row, placed_row, item_view}
use Rattle.items.proofs.Placed.{placed_back}

-- ---- the numbers of the parts
side_back : (s : ℕ) → s < 2 → side_code (side_of s) ≡ s
side_back zero h = refl
side_back (suc zero) h = refl
side_back (suc (suc s)) h = absurd (omega arith)

verdict_back : (v : ℕ) → 1 ≤ v → v ≤ 3 → positioning_code (verdict_of v) ≡ v
verdict_back zero a b = absurd (omega arith)
verdict_back (suc zero) a b = refl
verdict_back (suc (suc zero)) a b = refl
verdict_back (suc (suc (suc zero))) a b = refl
verdict_back (suc (suc (suc (suc v)))) a b = absurd (omega arith)

judgment_back : (side : Side) (n : ℕ) → 1 ≤ n → n ≤ 4 → (judgment_side (judgment_of side n) ≡ side_code side) × (judgment_code (judgment_of side n) ≡ n)
judgment_back side zero a b = absurd (omega arith)
judgment_back side (suc zero) a b = (refl, refl)
judgment_back side (suc (suc zero)) a b = (refl, refl)
judgment_back side (suc (suc (suc zero))) a b = (refl, refl)
judgment_back side (suc (suc (suc (suc zero)))) a b = (refl, refl)
judgment_back side (suc (suc (suc (suc (suc n))))) a b = absurd (omega arith)

who_back : (s n : ℕ) → s < 2 → (who_side (who_of s n) ≡ s) × (who_number (who_of s n) ≡ n)
who_back zero n h = (refl, refl)
who_back (suc zero) n h = (refl, refl)
who_back (suc (suc s)) n h = absurd (omega arith)

-- ---- by the kind
-- the item of a line with another name for its kind
of_kind : (r : Row) (k : ℕ) → r.kind ≡ k → row_of (item_of r) ≡ row_of (item_of (row k r.side r.number r.value))
of_kind r k e = ap (λ (x : ℕ). row_of (item_of (row x r.side r.number r.value))) e

same_row : (r : Row) {k s n v : ℕ} → r.kind ≡ k → s ≡ r.side → n ≡ r.number → v ≡ r.value → row k s n v ≡ r
same_row r {k} {s} {n} {v} a b c d =
    ap₂ (λ (x y : ℕ). row x y n v) (sym a) b ∙ ap₂ (λ (x y : ℕ). row r.kind r.side x y) c d

-- the first of three kinds, the second or the third
data OneOfThree (first kind : ℕ) : Type 0 where
  is_first : kind ≡ first → OneOfThree first kind
  is_second : kind ≡ suc first → OneOfThree first kind
  is_third : kind ≡ suc (suc first) → OneOfThree first kind

one_of_three : (first kind : ℕ) → first ≤ kind → kind ≤ suc (suc first) → OneOfThree first kind
one_of_three zero zero a b = is_first refl
one_of_three zero (suc zero) a b = is_second refl
one_of_three zero (suc (suc zero)) a b = is_third refl
one_of_three zero (suc (suc (suc k))) a b = absurd (omega arith)
one_of_three (suc f) zero a b = absurd (omega arith)
one_of_three (suc f) (suc k) a b = up (one_of_three f k (omega arith) (omega arith))
  where
    up : OneOfThree f k → OneOfThree (suc f) (suc k)
    up (is_first e) = is_first (ap suc e)
    up (is_second e) = is_second (ap suc e)
    up (is_third e) = is_third (ap suc e)

player_back : (r : Row) → PlayerRow r → r.value ≡ 0 → OneOfThree 3 r.kind → row_of (item_of r) ≡ r
unfolding item_of
player_back r p v (is_first k) = of_kind r 3 k ∙ same_row r k (side_back r.side p.side) refl (sym v)
player_back r p v (is_second k) = of_kind r 4 k ∙ same_row r k (side_back r.side p.side) refl (sym v)
player_back r p v (is_third k) = of_kind r 5 k ∙ same_row r k (side_back r.side p.side) refl (sym v)

judged_back : (r : Row) → r.kind ≡ 6 → r.value ≡ 0 → JudgedRow r → row_of (item_of r) ≡ r
unfolding item_of
judged_back r k v (for_side s a b) =
    let j = judgment_back (side_of r.side) r.number a b in
    of_kind r 6 k ∙ same_row r k (j.0 ∙ side_back r.side s) j.1 (sym v)
judged_back r k v (for_none s n) =
    of_kind r 6 k
    ∙ same_row r k (ap (λ (x : ℕ). judgment_side (judgment_of (side_of r.side) x)) n ∙ sym s) (ap (λ (x : ℕ). judgment_code (judgment_of (side_of r.side) x)) n ∙ sym n) (sym v)

whose_back : (r : Row) → WhoRow r → (who_side (who_of r.side r.number) ≡ r.side) × (who_number (who_of r.side r.number) ≡ r.number)
whose_back r (a_player p) = who_back r.side r.number p.side
whose_back r (the_ball s n) = (ap (λ (x : ℕ). who_side (who_of x r.number)) s ∙ sym s, ap (λ (x : ℕ). who_number (who_of x r.number)) s ∙ sym n)

place_back : (r : Row) → r.value ≤ 4294967295 → WhoRow r → is_placed r.value ≡ true → OneOfThree 7 r.kind → row_of (item_of r) ≡ r
unfolding item_of
place_back r h w e (is_first k) = let p = whose_back r w in of_kind r 7 k ∙ same_row r k p.0 p.1 (placed_back r.value h e)
place_back r h w e (is_second k) = let p = whose_back r w in of_kind r 8 k ∙ same_row r k p.0 p.1 (placed_back r.value h e)
place_back r h w e (is_third k) = let p = whose_back r w in of_kind r 9 k ∙ same_row r k p.0 p.1 (placed_back r.value h e)

pub row_back : (r : Row) → r.value ≤ 4294967295 → is_item r ≡ true → row_of (item_of r) ≡ r
unfolding item_of
row_back r h e = go (item_view r e)
  where
    go : ItemRow r → row_of (item_of r) ≡ r
    go (verdict_row k p a b) = of_kind r 1 k ∙ same_row r k (side_back r.side p.side) refl (verdict_back r.value a b)
    go (excess_row k p) = of_kind r 2 k ∙ same_row r k (side_back r.side p.side) refl refl
    go (player_row a b p v) = player_back r p v (one_of_three 3 r.kind a b)
    go (judged_row k j v) = judged_back r k v j
    go (placed_row a b w v) = place_back r h w v (one_of_three 7 r.kind a b)
