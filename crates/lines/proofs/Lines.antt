-- Lengths of lines, and a line from its four numbers. Assumes nothing.
use mathlib.Core.Path.{◌≡◌, refl, sym, ap, ◌∙◌}
use mathlib.Core.List.{List, [], ◌∷◌, ◌++◌, append_assoc}
use Prim.Native.Nat.{ℕ, ◌*◌, ◌≤◌, ◌<◌}
use native.Mathlib.Omega.{arith}
use lib.ListN.{length, set, length-append}
use Rattle.lists.specs.Put.{fronted, fronted_into}
use Rattle.lists.proofs.Fronted.{into_short, into_fits}
use Rattle.lists.proofs.Table.{length_table}
use Rattle.lines.specs.declared.Row.{Row}
use Rattle.lines.specs.Line.{column_byte, columns_of, line_of, lines_of}
use Rattle.lines.specs.Over.{over}
use Rattle.lines.proofs.Over.{over_front, over_then, over_one}

pub length_columns : (v : ℕ) → length (columns_of v) ≡ 11
unfolding columns_of
length_columns v = length_table 11 (column_byte v)

-- the four numbers as they are written, and the line feed
abbrev written : Row → List ℕ
written r = (((columns_of r.kind ++ columns_of r.side) ++ columns_of r.number) ++ columns_of r.value) ++ (10 ∷ [])

written_line : (r : Row) → written r ≡ line_of r
unfolding line_of
written_line r = simp append_assoc

pub length_line : (r : Row) → length (line_of r) ≡ 45
length_line r =
    ap length (sym (written_line r)) ∙ simp (length-append, length_columns)

pub length_lines : (rs : List Row) → length (lines_of rs) ≡ 45 * length rs
unfolding lines_of
length_lines [] = refl
length_lines (r ∷ rs) = length-append (line_of r) (lines_of rs) ∙ omega (arith, length_line r, length_lines rs)

pub lines_append : (a b : List Row) → lines_of (a ++ b) ≡ lines_of a ++ lines_of b
unfolding lines_of
lines_append [] b = refl
lines_append (r ∷ a) b = ap (λ (t : List ℕ). line_of r ++ t) (lines_append a b) ∙ sym (append_assoc (line_of r) (lines_of a) (lines_of b))

-- where there is no room
pub line_short : (r : Row) (s : List ℕ) → length s < 45 → fronted_into (line_of r) s ≡ s
line_short r s h = into_short (line_of r) s (omega (arith, length_line r))

-- where there is
pub line_fits : (r : Row) (s : List ℕ) → 45 ≤ length s → fronted_into (line_of r) s ≡ fronted (line_of r) s
line_fits r s h = into_fits (line_of r) s (omega (arith, length_line r))

-- what the four writers and the store leave
pub line_told : (r : Row) (s a b c d : List ℕ) → 45 ≤ length s → a ≡ over 0 (columns_of r.kind) s → b ≡ over 11 (columns_of r.side) a → c ≡ over 22 (columns_of r.number) b
    → d ≡ over 33 (columns_of r.value) c → length d ≡ length s → set d 44 10 ≡ fronted_into (line_of r) s
line_told r s a b c d h ea eb ec ed ld =
    let k = columns_of r.kind in
    let w = columns_of r.side in
    let n = columns_of r.number in
    let v = columns_of r.value in
    let lk = length_columns r.kind in
    let lw : length (k ++ w) ≡ 22 = simp (length-append, length_columns) in
    let ln : length ((k ++ w) ++ n) ≡ 33 = simp (length-append, length_columns) in
    let lv : length (((k ++ w) ++ n) ++ v) ≡ 44 = simp (length-append, length_columns) in
    let b' : b ≡ over 0 (k ++ w) s = eb ∙ ap (over 11 w) ea ∙ over_then 0 11 k w s (omega (arith, lk)) (omega arith) in
    let c' : c ≡ over 0 ((k ++ w) ++ n) s = ec ∙ ap (over 22 n) b' ∙ over_then 0 22 (k ++ w) n s (omega (arith, lw)) (omega arith) in
    let d' : d ≡ over 0 (((k ++ w) ++ n) ++ v) s = ed ∙ ap (over 33 v) c' ∙ over_then 0 33 ((k ++ w) ++ n) v s (omega (arith, ln)) (omega arith) in
    over_one 44 10 d (omega (arith, ld))
    ∙ ap (over 44 (10 ∷ [])) d'
    ∙ over_then 0 44 (((k ++ w) ++ n) ++ v) (10 ∷ []) s (omega (arith, lv)) (omega arith)
    ∙ ap (λ (t : List ℕ). over 0 t s) (written_line r)
    ∙ over_front (line_of r) s
    ∙ sym (line_fits r s h)
