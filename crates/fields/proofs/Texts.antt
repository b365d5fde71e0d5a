-- Rows read from their lines are the rows, and a text in column form is the lines of its rows. Assumes nothing.
use mathlib.Core.Path.{◌≡◌, refl, sym, ap, ap₂, subst, ◌∙◌}
use mathlib.Core.Bool.{Bool, true, false, ◌&&◌}
use mathlib.Core.List.{List, [], ◌∷◌, ◌++◌}
use Prim.Native.Nat.{ℕ, zero, suc, ◌+◌, ◌*◌, ◌/◌, ◌%◌}
use native.Mathlib.Omega.{arith}
use borrow.Author.Tests.{eqb-true}
use lib.Dec.{eqb}
use lib.ListN.{length, take, drop, length-append, length-drop, take-append-drop}
use lib.Seq.{length-take-le, take_at, drop-append-add}
use Rattle.lists.specs.Every.{every_to}
use Rattle.lists.specs.Table.{table}
use Rattle.lists.proofs.Bools.{both, both_true, and_swap}
use Rattle.lists.proofs.Every.{every_same}
use Rattle.lists.proofs.Table.{length_table, table_same}
use Rattle.lines.specs.declared.Row.{Row}
use Rattle.lines.specs.Line.{line_of, lines_of}
use Rattle.lines.proofs.Lines.{length_line}
use Rattle.fields.specs.Fields.{is_line, row_in, line_at, line_count, column_form, rows_in}
use Rattle.fields.proofs.Rows.{SmallRow, line_read, line_written}

-- rows of numbers of 32 bits
pub data SmallRows : List Row → Type 0 where
  no_rows : SmallRows []
  one_row : {r : Row} {rs : List Row} → SmallRow r → SmallRows rs → SmallRows (r ∷ rs)

pub length_rows : (text : List ℕ) → length (rows_in text) ≡ line_count text
unfolding rows_in
length_rows text = length_table (line_count text) (λ i. row_in (line_at text i))

-- ---- a test at each place, the first place apart
and_assoc : (a b c : Bool) → ((a && b) && c) ≡ (a && (b && c))
and_assoc true b c = refl
and_assoc false b c = refl

pub every_first : (n : ℕ) (P : ℕ → Bool) → every_to (suc n) P ≡ (P 0 && every_to n (λ k. P (suc k)))
unfolding every_to
every_first zero P = and_swap true (P 0)
every_first (suc n) P = ap (λ (b : Bool). b && P (suc n)) (every_first n P) ∙ and_assoc (P 0) (every_to n (λ k. P (suc k))) (P (suc n))

-- ---- a line before a text
more_lines : (m n : ℕ) → m ≡ 45 + n → (m / 45 ≡ suc (n / 45)) × (m % 45 ≡ n % 45)
more_lines m n e = (omega arith, omega arith)

second_first : (a b c : Bool) → (a && (b && c)) ≡ (b && (a && c))
second_first true b c = refl
second_first false true c = refl
second_first false false c = refl

module _ (l t : List ℕ) (h : length l ≡ 45) where
  long : length (l ++ t) ≡ 45 + length t
  long = length-append l t ∙ ap (λ (k : ℕ). k + length t) h

  line_0 : line_at (l ++ t) 0 ≡ l
  line_0 = take_at l t 45 h

  line_suc : (i : ℕ) → line_at (l ++ t) (suc i) ≡ line_at t i
  line_suc i =
      let far : 45 * suc i ≡ length l + 45 * i = omega arith in
      ap (take 45) (ap (λ (k : ℕ). drop k (l ++ t)) far ∙ drop-append-add l t (45 * i))

  rows_next : rows_in (l ++ t) ≡ row_in l ∷ rows_in t
  unfolding rows_in
  rows_next =
      ap (λ (n : ℕ). table n (λ i. row_in (line_at (l ++ t) i))) (more_lines (length (l ++ t)) (length t) long).0
      ∙ ap₂ {C = List Row} (λ (r : Row) (rs : List Row). r ∷ rs) (ap row_in line_0)
      (table_same (line_count t) (λ i. row_in (line_at (l ++ t) (suc i))) (λ i. row_in (line_at t i)) (λ i _. ap row_in (line_suc i)))

  form_next : column_form (l ++ t) ≡ (is_line l && column_form t)
  unfolding column_form
  form_next =
      let n = more_lines (length (l ++ t)) (length t) long in
      ap₂ (λ (k m : ℕ). eqb k 0 && every_to m (λ i. is_line (line_at (l ++ t) i))) n.1 n.0
      ∙ ap (λ (b : Bool). eqb (length t % 45) 0 && b)
      (every_first (line_count t) (λ i. is_line (line_at (l ++ t) i))
      ∙ ap₂ (λ (a b : Bool). a && b) (ap is_line line_0) (every_same (line_count t) (λ i. is_line (line_at (l ++ t) (suc i))) (λ i. is_line (line_at t i)) (λ i _. ap is_line (line_suc i))))
      ∙ second_first (eqb (length t % 45) 0) (is_line l) (every_to (line_count t) (λ i. is_line (line_at t i)))

-- ---- written, then read
pub text_read : (rs : List Row) → SmallRows rs → (column_form (lines_of rs) ≡ true) × (rows_in (lines_of rs) ≡ rs)
unfolding lines_of column_form rows_in every_to
text_read rs no_rows = (refl, refl)
text_read rs (one_row {r} {rs = more} s ss) =
    let one = line_read r s in
    let rest = text_read more ss in (
      form_next (line_of r) (lines_of more) (length_line r) ∙ both (is_line (line_of r)) (column_form (lines_of more)) one.0 rest.0,
      rows_next (line_of r) (lines_of more) (length_line r) ∙ ap₂ {C = List Row} (λ (a : Row) (l : List Row). a ∷ l) one.1 rest.1,
    )

-- ---- read, then written
abbrev Written : List ℕ → Type 0
Written text = (lines_of (rows_in text) ≡ text) × SmallRows (rows_in text)

written_next : (l t : List ℕ) → length l ≡ 45 → is_line l ≡ true → Written t → Written (l ++ t)
unfolding lines_of
written_next l t h e w =
    let one = line_written l e in (
      ap lines_of (rows_next l t h) ∙ ap₂ (λ (a b : List ℕ). a ++ b) one.0 w.0,
      subst SmallRows (sym (rows_next l t h)) (one_row one.1 w.1),
    )

count_written : (n : ℕ) (text : List ℕ) → length text ≡ 45 * n → column_form text ≡ true → Written text
unfolding lines_of rows_in
count_written zero [] h e = (refl, no_rows)
count_written zero (b ∷ text) h e = absurd (omega arith)
count_written (suc n) text h e =
    let l : List ℕ = take 45 text in
    let t : List ℕ = drop 45 text in
    let long : length l ≡ 45 = length-take-le 45 text (omega arith) in
    let parts = both_true (is_line l) (column_form t) (sym (form_next l t long) ∙ ap column_form (take-append-drop 45 text) ∙ e) in
    subst Written (take-append-drop 45 text) (written_next l t long parts.0 (count_written n t (omega (arith, length-drop 45 text)) parts.1))

pub text_written : (text : List ℕ) → column_form text ≡ true → (lines_of (rows_in text) ≡ text) × SmallRows (rows_in text)
unfolding column_form
text_written text e =
    let even : length text % 45 ≡ 0 = eqb-true (length text % 45) 0 (both_true (eqb (length text % 45) 0) (every_to (line_count text) (λ i. is_line (line_at text i))) e).0 in
    count_written (length text / 45) text (omega arith) e
