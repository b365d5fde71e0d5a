-- A row read from its line is the row, and a line that can be read is that of its row. Assumes nothing.
use mathlib.Core.Path.{◌≡◌, sym, ap, ap₂, ◌∙◌}
use mathlib.Core.Bool.{Bool, true, ◌&&◌}
use mathlib.Core.List.{List, [], ◌∷◌, ◌++◌}
use Prim.Native.Nat.{ℕ, ◌+◌, ◌≤◌}
use native.Mathlib.Omega.{arith}
use borrow.Author.Tests.{eqb-true, eq-eqb}
use lib.Dec.{eqb}
use lib.ListN.{length, take, drop, get_or, length-drop, take-append-drop, drop_of_length-le}
use lib.Seq.{length-take-le, take_at, drop_at, drop-drop, drop-cons, get_or-drop}
use Rattle.lists.proofs.Bools.{both_true}
use Rattle.lines.specs.declared.Row.{Row}
use Rattle.lines.specs.Line.{columns_of, line_of}
use Rattle.lines.proofs.Lines.{length_columns, length_line}
use Rattle.fields.specs.Fields.{is_field, field_value, columns_from, is_line, row_in}
use Rattle.fields.proofs.Columns.{columns_read, columns_written}

-- numbers of 32 bits
pub record SmallRow (r : Row) : Type 0 where
  pub kind_small : r.kind ≤ 4294967295
  pub side_small : r.side ≤ 4294967295
  pub number_small : r.number ≤ 4294967295
  pub value_small : r.value ≤ 4294967295

abbrev row_of : ℕ → ℕ → ℕ → ℕ → Row
row_of k s n v = record { kind = k; side = s; number = n; value = v }

row_same : {k k' s s' n n' v v' : ℕ} → k ≡ k' → s ≡ s' → n ≡ n' → v ≡ v' → row_of k s n v ≡ row_of k' s' n' v'
row_same a b c d = cc

-- ---- written, then read
-- four lists of 11 and a line feed
module _ (a b c d : List ℕ) (la : length a ≡ 11) (lb : length b ≡ 11) (lc : length c ≡ 11) (ld : length d ≡ 11) where
  abbrev whole : List ℕ
  whole = a ++ (b ++ (c ++ (d ++ (10 ∷ []))))

  rest_11 : drop 11 whole ≡ b ++ (c ++ (d ++ (10 ∷ [])))
  rest_11 = drop_at a (b ++ (c ++ (d ++ (10 ∷ [])))) 11 la

  rest_22 : drop 22 whole ≡ c ++ (d ++ (10 ∷ []))
  rest_22 = sym (drop-drop 11 11 whole) ∙ ap (drop 11) rest_11 ∙ drop_at b (c ++ (d ++ (10 ∷ []))) 11 lb

  rest_33 : drop 33 whole ≡ d ++ (10 ∷ [])
  rest_33 = sym (drop-drop 11 22 whole) ∙ ap (drop 11) rest_22 ∙ drop_at c (d ++ (10 ∷ [])) 11 lc

  rest_44 : drop 44 whole ≡ 10 ∷ []
  rest_44 = sym (drop-drop 11 33 whole) ∙ ap (drop 11) rest_33 ∙ drop_at d (10 ∷ []) 11 ld

  part_0 : columns_from 0 whole ≡ a
  part_0 = take_at a (b ++ (c ++ (d ++ (10 ∷ [])))) 11 la

  part_11 : columns_from 11 whole ≡ b
  part_11 = ap (take 11) rest_11 ∙ take_at b (c ++ (d ++ (10 ∷ []))) 11 lb

  part_22 : columns_from 22 whole ≡ c
  part_22 = ap (take 11) rest_22 ∙ take_at c (d ++ (10 ∷ [])) 11 lc

  part_33 : columns_from 33 whole ≡ d
  part_33 = ap (take 11) rest_33 ∙ take_at d (10 ∷ []) 11 ld

  last_44 : get_or whole 44 0 ≡ 10
  last_44 = sym (get_or-drop 44 whole 0 0) ∙ ap (λ (l : List ℕ). get_or l 0 0) rest_44

-- the parts of a line's test
tests : (a b c d e f : Bool) → a ≡ true → b ≡ true → c ≡ true → d ≡ true → e ≡ true → f ≡ true → (a && (b && (c && (d && (e && f))))) ≡ true
tests a b c d e f pa pb pc pd pe pf = simp (pa, pb, pc, pd, pe, pf)

pub line_read : (r : Row) → SmallRow r → (is_line (line_of r) ≡ true) × (row_in (line_of r) ≡ r)
unfolding is_line row_in line_of
line_read r s =
    let a : List ℕ = columns_of r.kind in
    let b : List ℕ = columns_of r.side in
    let c : List ℕ = columns_of r.number in
    let d : List ℕ = columns_of r.value in
    let la = length_columns r.kind in
    let lb = length_columns r.side in
    let lc = length_columns r.number in
    let ld = length_columns r.value in
    let ra = columns_read r.kind s.kind_small in
    let rb = columns_read r.side s.side_small in
    let rc = columns_read r.number s.number_small in
    let rd = columns_read r.value s.value_small in
    let pa = part_0 a b c d la lb lc ld in
    let pb = part_11 a b c d la lb lc ld in
    let pc = part_22 a b c d la lb lc ld in
    let pd = part_33 a b c d la lb lc ld in (
      tests _ _ _ _ _ _ (eq-eqb (length (line_of r)) 45 (length_line r)) (ap is_field pa ∙ ra.0) (ap is_field pb ∙ rb.0) (ap is_field pc ∙ rc.0) (ap is_field pd ∙ rd.0)
          (eq-eqb (get_or (line_of r) 44 0) 10 (last_44 a b c d la lb lc ld)),
      row_same (ap field_value pa ∙ ra.1) (ap field_value pb ∙ rb.1) (ap field_value pc ∙ rc.1) (ap field_value pd ∙ rd.1),
    )

-- ---- read, then written
-- a list's columns and what follows them
next_columns : (at : ℕ) (l : List ℕ) → drop at l ≡ columns_from at l ++ drop (at + 11) l
next_columns at l = sym (take-append-drop 11 (drop at l)) ∙ ap (λ (t : List ℕ). columns_from at l ++ t) (drop-drop 11 at l)

length_part : (at : ℕ) (l : List ℕ) → at + 11 ≤ length l → length (columns_from at l) ≡ 11
length_part at l h = length-take-le 11 (drop at l) (omega (arith, length-drop at l))

line_split : (l : List ℕ) → length l ≡ 45 → get_or l 44 0 ≡ 10 → columns_from 0 l ++ (columns_from 11 l ++ (columns_from 22 l ++ (columns_from 33 l ++ (10 ∷ [])))) ≡ l
line_split l h e =
    let end : drop 44 l ≡ 10 ∷ [] = drop-cons l 44 0 (omega arith) ∙ ap₂ {C = List ℕ} (λ (b : ℕ) (t : List ℕ). b ∷ t) e (drop_of_length-le l {i = 45} (omega arith)) in
    sym (next_columns 0 l
    ∙ ap (λ (t : List ℕ). columns_from 0 l ++ t) (next_columns 11 l
    ∙ ap (λ (t : List ℕ). columns_from 11 l ++ t) (next_columns 22 l
    ∙ ap (λ (t : List ℕ). columns_from 22 l ++ t) (next_columns 33 l
    ∙ ap (λ (t : List ℕ). columns_from 33 l ++ t) end))))

pub line_written : (l : List ℕ) → is_line l ≡ true → (line_of (row_in l) ≡ l) × SmallRow (row_in l)
unfolding is_line row_in line_of
line_written l e =
    let h = both_true (eqb (length l) 45) _ e in
    let ha = both_true (is_field (columns_from 0 l)) _ h.1 in
    let hb = both_true (is_field (columns_from 11 l)) _ ha.1 in
    let hc = both_true (is_field (columns_from 22 l)) _ hb.1 in
    let hd = both_true (is_field (columns_from 33 l)) _ hc.1 in
    let long : length l ≡ 45 = eqb-true (length l) 45 h.0 in
    let wa = columns_written (columns_from 0 l) (length_part 0 l (omega arith)) ha.0 in
    let wb = columns_written (columns_from 11 l) (length_part 11 l (omega arith)) hb.0 in
    let wc = columns_written (columns_from 22 l) (length_part 22 l (omega arith)) hc.0 in
    let wd = columns_written (columns_from 33 l) (length_part 33 l (omega arith)) hd.0 in (
      ap₂ ◌++◌ wa.0 (ap₂ ◌++◌ wb.0 (ap₂ ◌++◌ wc.0 (ap (λ (t : List ℕ). t ++ (10 ∷ [])) wd.0))) ∙ line_split l long (eqb-true (get_or l 44 0) 10 hd.1),
      record { kind_small = wa.1; side_small = wb.1; number_small = wc.1; value_small = wd.1 },
    )
