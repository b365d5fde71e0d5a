-- The answers, by the walk over the lines. Assumes nothing.
use mathlib.Core.Path.{◌≡◌, refl, sym, ap, ap₂, ◌∙◌}
use mathlib.Core.Bool.{Bool, true, false, not, ◌||◌, cond, true≢false}
use mathlib.Core.List.{List, [], ◌∷◌, map}
use Prim.Native.Nat.{ℕ, zero, suc, ◌-◌, ◌*◌, ◌/◌, ◌%◌, ◌≤◌, ◌<◌, suc-le-suc}
use native.Mathlib.Nat.{not-suc-le-zero, le_of_suc-le-suc}
use native.Mathlib.Omega.{arith}
use borrow.Author.Tests.{eqb-true, eqb-false, eq-eqb, ltb-true, ltb-false}
use lib.Dec.{eqb, ltb}
use lib.ListN.{length, drop, length-take, length-drop}
use Rattle.std.specs.Prelude.{Option, None, Some, Result, Ok, Err, MatchOption, IsSomeAnd, option_map}
use Rattle.lists.specs.Every.{every_to}
use Rattle.lists.specs.Table.{table}
use Rattle.lists.proofs.Bools.{both_true, by_test}
use Rattle.lists.proofs.Every.{every_at}
use Rattle.lists.proofs.Lengths.{length_map}
use Rattle.lines.specs.declared.Row.{Row}
use Rattle.fields.specs.Fields.{is_line, row_in, line_read, line_at, line_count, column_form, rows_in}
use Rattle.fields.proofs.Rows.{line_written}
use Rattle.fields.proofs.Texts.{SmallRows, one_row, length_rows, text_written}
use Rattle.items.specs.Items.{is_item, item_of}
use Rattle.items.specs.declared.Item.{Item}
use Rattle.items.proofs.Back.{row_back}
use Rattle.reading.specs.Rules.{every, is_body, is_header, is_sheet}
use Rattle.reading.specs.Reading.{counted, read_refusal, number_of, refusal_of, unless_refused, following, items_in, sheet_read, nth_item, asked_item, item_read, numbers_of, numbers_read}
use Rattle.reading.specs.Walk.{lines_in, walked, broken, whole, counted_by}
use Rattle.reading.specs.declared.NoSheet.{NoSheet}
use Rattle.reading.specs.declared.Walk.{Walk}
use Rattle.reading.specs.declared.Walk.TheVariants.{Start}
use Rattle.reading.proofs.Body.{body_view}
use Rattle.reading.proofs.Longest.{longest}
use Rattle.reading.proofs.Walked.{form_told, counted_told, sheet_told, every_line, line_is, short_line}

-- ---- the first refusal
-- the three tests in their order
pub refusal_is : (text : List ℕ) → read_refusal text ≡ cond (column_form text) (cond (counted (rows_in text)) (cond (is_sheet (rows_in text)) 0 11) 10) 9
unfolding read_refusal
refusal_is text = refl

refusal_by : (text : List ℕ) (f c s : Bool) → column_form text ≡ f → (f ≡ true → counted (rows_in text) ≡ c) → (f ≡ true → c ≡ true → is_sheet (rows_in text) ≡ s) → cond f (cond c (cond s 0 11) 10) 9 ≡ read_refusal text
refusal_by text false c s ef ec es = sym (refusal_is text ∙ ap (λ (f : Bool). cond f (cond (counted (rows_in text)) (cond (is_sheet (rows_in text)) 0 11) 10) 9) ef)
refusal_by text true false s ef ec es =
    sym (refusal_is text ∙ ap₂ (λ (f c : Bool). cond f (cond c (cond (is_sheet (rows_in text)) 0 11) 10) 9) ef (ec refl))
refusal_by text true true s ef ec es =
    sym (refusal_is text ∙ ap₂ (λ (f c : Bool). cond f (cond c (cond (is_sheet (rows_in text)) 0 11) 10) 9) ef (ec refl) ∙ ap (λ (b : Bool). cond b 0 11) (es refl refl))

-- by what the code looks at
pub refusal_told : (text : List ℕ) (w : Walk) (f c s : Bool) → w ≡ walked Start (lines_in text) → (broken w || not (eqb (length text % 45) 0)) ≡ not f
    → (f ≡ true → counted_by (line_read (line_at text 0)) (line_count text) ≡ c) → (f ≡ true → c ≡ true → whole w ≡ s) → cond f (cond c (cond s 0 11) 10) 9 ≡ read_refusal text
refusal_told text w f c s ew ef ec es =
    let form : column_form text ≡ f = form_told text ∙ ap (λ (v : Walk). not (broken v || not (eqb (length text % 45) 0))) (sym ew) ∙ ap not ef ∙ not_not f in
    let count : f ≡ true → counted (rows_in text) ≡ c = λ t. sym (counted_told text (form ∙ t)) ∙ ec t in
    refusal_by text f c s form count (λ t u. sym (sheet_told text (form ∙ t) (count t ∙ u)) ∙ ap whole (sym ew) ∙ es t u)
  where
    not_not : (b : Bool) → not (not b) ≡ b
    not_not true = refl
    not_not false = refl

-- ---- a number and its refusal
-- a value is that beside 0
pub not_refused : {A : Type 0} (n : ℕ) (x y : A) → Ok y ≡ unless_refused n x → (n ≡ 0) × (y ≡ x)
not_refused n x y e =
    by_test (eqb n 0)
    (λ t. (eqb-true n 0 t, ok_same (e ∙ ap (λ (b : Bool). cond b (Ok x) (Err (refusal_of n))) t)))
    (λ f. absurd (ok_err (e ∙ ap (λ (b : Bool). cond b (Ok x) (Err (refusal_of n))) f)))
  where
    ok_same : {A E : Type 0} {u v : A} → ◌≡◌ {A = Result A E} (Ok u) (Ok v) → u ≡ v
    ok_same e = cc

    ok_err : {A E : Type 0} {u : A} {v : E} → ◌≡◌ {A = Result A E} (Ok u) (Err v) → ⊥
    ok_err e = let z : ◌≡◌ {A = ℕ} 0 1 = cc in absurd (omega (arith, z))

err_ok : {A E : Type 0} {u : E} {v : A} → ◌≡◌ {A = Result A E} (Err u) (Ok v) → ⊥
err_ok e = let z : ◌≡◌ {A = ℕ} 0 1 = cc in absurd (omega (arith, z))

-- a refusal is that of the number
pub refused_by : {A : Type 0} (n : ℕ) (x : A) (r : NoSheet) → Err r ≡ unless_refused n x → (eqb n 0 ≡ false) × (r ≡ refusal_of n)
refused_by n x r e =
    by_test (eqb n 0)
    (λ t. absurd (err_ok (e ∙ ap (λ (b : Bool). cond b (Ok x) (Err (refusal_of n))) t)))
    (λ f. (f, err_same (e ∙ ap (λ (b : Bool). cond b (Ok x) (Err (refusal_of n))) f)))
  where
    err_same : {A E : Type 0} {u v : E} → ◌≡◌ {A = Result A E} (Err u) (Err v) → u ≡ v
    err_same e = cc

-- and its number is the text's
pub number_told : (text : List ℕ) (r : NoSheet) → eqb (read_refusal text) 0 ≡ false → r ≡ refusal_of (read_refusal text) → number_of r ≡ read_refusal text
number_told text r f e = ap number_of e ∙ ap (λ (n : ℕ). number_of (refusal_of n)) (refusal_is text) ∙ go (column_form text) (counted (rows_in text)) (is_sheet (rows_in text)) (ap (λ (n : ℕ). eqb n 0) (sym (refusal_is text)) ∙ f) ∙ sym (refusal_is text)
  where
    go : (f c s : Bool) → eqb (cond f (cond c (cond s 0 11) 10) 9) 0 ≡ false → number_of (refusal_of (cond f (cond c (cond s 0 11) 10) 9)) ≡ cond f (cond c (cond s 0 11) 10) 9
    go true true true z = absurd (true≢false z)
    go true true false z = refl
    go true false s z = refl
    go false c s z = refl

-- ---- an accepted text
-- it is a sheet in column form
pub record Accepted (text : List ℕ) : Type 0 where
  pub form : column_form text ≡ true
  pub sheet : is_sheet (rows_in text) ≡ true

pub accepted_view : (text : List ℕ) → read_refusal text ≡ 0 → Accepted text
accepted_view text e = go (column_form text) (counted (rows_in text)) (is_sheet (rows_in text)) refl refl (sym (refusal_is text) ∙ e)
  where
    go : (f c s : Bool) → column_form text ≡ f → is_sheet (rows_in text) ≡ s → ◌≡◌ {A = ℕ} (cond f (cond c (cond s 0 11) 10) 9) 0 → Accepted text
    go true true true ef es z = record { form = ef; sheet = es }
    go true true false ef es z = absurd (let no : ◌≡◌ {A = ℕ} 11 0 = z in omega (arith, no))
    go true false s ef es z = absurd (let no : ◌≡◌ {A = ℕ} 10 0 = z in omega (arith, no))
    go false c s ef es z = absurd (let no : ◌≡◌ {A = ℕ} 9 0 = z in omega (arith, no))

-- the lines after the header are items
pub body_items : (rows : List Row) → is_sheet rows ≡ true → every is_item (following rows) ≡ true
body_items [] e = absurd (true≢false (sym e))
body_items (r ∷ rs) e = (body_view rs (both_true (is_header r (length rs)) (is_body rs) e).1).items

-- there is a header
pub header_there : (text : List ℕ) → is_sheet (rows_in text) ≡ true → suc (length (following (rows_in text))) ≡ line_count text
header_there text e = go (rows_in text) e (length_rows text)
  where
    go : (rows : List Row) → is_sheet rows ≡ true → length rows ≡ line_count text → suc (length (following rows)) ≡ line_count text
    go [] e h = absurd (true≢false (sym e))
    go (r ∷ rs) e h = h

-- ---- the count
pub sheet_refused : {A : Type 0} (text : List ℕ) (x : A) (r : NoSheet) → Err r ≡ unless_refused (read_refusal text) x → Err r ≡ sheet_read text
unfolding sheet_read
sheet_refused text x r e =
    let h = refused_by (read_refusal text) x r e in
    ap Err h.1 ∙ sym (ap (λ (b : Bool). cond b (Ok (length (items_in text))) (Err (refusal_of (read_refusal text)))) h.0)

pub sheet_counted : (text : List ℕ) → read_refusal text ≡ 0 → Ok (line_count text - 1) ≡ sheet_read text
unfolding sheet_read items_in
sheet_counted text e =
    let long = header_there text (accepted_view text e).sheet in
    let count : line_count text - 1 ≡ length (map item_of (following (rows_in text))) = omega (arith, long, length_map item_of (following (rows_in text))) in
    ap Ok count ∙ sym (ap (λ (b : Bool). cond b (Ok (length (map item_of (following (rows_in text))))) (Err (refusal_of (read_refusal text)))) (eq-eqb (read_refusal text) 0 e))

pub some_line : (text : List ℕ) → read_refusal text ≡ 0 → 1 ≤ line_count text
some_line text e = omega (arith, header_there text (accepted_view text e).sheet)

-- what is told of the text: a refusal's number, or no refusal and the count
pub refusal_read : (text : List ℕ) (r : NoSheet) → Err r ≡ sheet_read text → (read_refusal text ≡ 0 → ⊥) × (number_of r ≡ read_refusal text)
unfolding sheet_read
refusal_read text r e = let h = refused_by (read_refusal text) (length (items_in text)) r e in (eqb-false (read_refusal text) 0 h.0, number_told text r h.0 h.1)

pub count_read : (text : List ℕ) (n : ℕ) → Ok n ≡ sheet_read text → (read_refusal text ≡ 0) × (n ≡ length (items_in text))
unfolding sheet_read
count_read text n e = not_refused (read_refusal text) (length (items_in text)) n e

-- no sheet has more than 165 of them
pub few_lines : (text : List ℕ) (n : ℕ) → Ok n ≡ sheet_read text → n ≤ 165
few_lines text n e =
    let none = (count_read text n e).0 in
    let count : line_count text - 1 ≡ length (items_in text) = (count_read text (line_count text - 1) (sheet_counted text none)).1 in
    omega (arith, (count_read text n e).1, count, longest (rows_in text) (accepted_view text none).sheet, length_rows text)

-- ---- items by their lines
item_answer : (text : List ℕ) (line : ℕ) → read_refusal text ≡ 0 → item_read text line ≡ Ok (asked_item line (items_in text))
unfolding item_read
item_answer text line e = ap (λ (b : Bool). cond b (Ok (asked_item line (items_in text))) (Err (refusal_of (read_refusal text)))) (eq-eqb (read_refusal text) 0 e)

item_refused : (text : List ℕ) (line : ℕ) → eqb (read_refusal text) 0 ≡ false → item_read text line ≡ Err (refusal_of (read_refusal text))
unfolding item_read
item_refused text line f = ap (λ (b : Bool). cond b (Ok (asked_item line (items_in text))) (Err (refusal_of (read_refusal text)))) f

nth_there : (m : ℕ) (g : ℕ → Row) (k : ℕ) → k < m → nth_item k (map item_of (table m g)) ≡ Some (item_of (g k))
unfolding nth_item
nth_there zero g k h = absurd (not-suc-le-zero h)
nth_there (suc m) g zero h = refl
nth_there (suc m) g (suc k) h = nth_there m (λ i. g (suc i)) k (le_of_suc-le-suc h)

nth_past : (m : ℕ) (g : ℕ → Row) (k : ℕ) → m ≤ k → nth_item k (map item_of (table m g)) ≡ None
unfolding nth_item
nth_past zero g k h = refl
nth_past (suc m) g zero h = absurd (not-suc-le-zero h)
nth_past (suc m) g (suc k) h = nth_past m (λ i. g (suc i)) k (le_of_suc-le-suc h)

every_of_table : (p : Row → Bool) (m : ℕ) (g : ℕ → Row) (k : ℕ) → k < m → every p (table m g) ≡ true → p (g k) ≡ true
unfolding every
every_of_table p zero g k h e = absurd (not-suc-le-zero h)
every_of_table p (suc m) g zero h e = (both_true (p (g 0)) (every p (table m (λ i. g (suc i)))) e).0
every_of_table p (suc m) g (suc k) h e = every_of_table p m (λ i. g (suc i)) k (le_of_suc-le-suc h) (both_true (p (g 0)) (every p (table m (λ i. g (suc i)))) e).1

-- the line after the header with this number: the item's numbers are those of the line, and there are no others
pub line_answer : (text : List ℕ) (k : ℕ) → read_refusal text ≡ 0 → numbers_read text (suc k) ≡ Ok (line_read (line_at text (suc k)))
unfolding numbers_read items_in rows_in
line_answer text k e =
    let a = accepted_view text e in
    ap numbers_of (item_answer text (suc k) e) ∙ go (line_count text) refl (every_line text a.form) a.sheet
  where
    go : (n : ℕ) → length text / 45 ≡ n → every_to n (λ i. is_line (line_at text i)) ≡ true → is_sheet (table n (λ i. row_in (line_at text i))) ≡ true
        → numbers_of (Ok (nth_item k (map item_of (following (table n (λ i. row_in (line_at text i))))))) ≡ Ok (line_read (line_at text (suc k)))
    go zero p every sheet = absurd (true≢false (sym sheet))
    go (suc m) p every sheet =
        by_test (ltb k m)
        (λ t.
        let here = ltb-true k m t in
        let line : is_line (line_at text (suc k)) ≡ true = every_at (suc m) (λ i. is_line (line_at text i)) every (suc k) (suc-le-suc here) in
        let item : is_item (row_in (line_at text (suc k))) ≡ true = every_of_table is_item m (λ i. row_in (line_at text (suc i))) k here (body_items (table (suc m) (λ i. row_in (line_at text i))) sheet) in
        ap (λ (o : Option Item). numbers_of (Ok o)) (nth_there m (λ i. row_in (line_at text (suc i))) k here)
        ∙ ap (λ (r : Row). Ok (Some r)) (row_back (row_in (line_at text (suc k))) (line_written (line_at text (suc k)) line).1.value_small item)
        ∙ ap Ok (sym (line_is (line_at text (suc k)) line)))
        (λ t.
        let past = ltb-false k m t in
        ap (λ (o : Option Item). numbers_of (Ok o)) (nth_past m (λ i. row_in (line_at text (suc i))) k past)
        ∙ ap Ok (sym (short_line (line_at text (suc k)) (omega (arith, p, past, length-take 45 (drop (45 * suc k) text), length-drop (45 * suc k) text)))))

pub numbers_refused : {A : Type 0} (text : List ℕ) (line : ℕ) (x : A) (r : NoSheet) → Err r ≡ unless_refused (read_refusal text) x → Err r ≡ numbers_read text line
unfolding numbers_read
numbers_refused text line x r e = let h = refused_by (read_refusal text) x r e in ap Err h.1 ∙ ap numbers_of (sym (item_refused text line h.0))

pub numbers_zero : (text : List ℕ) (line : ℕ) → read_refusal text ≡ 0 → line ≡ 0 → Ok None ≡ numbers_read text line
unfolding numbers_read
numbers_zero text line e z = sym (ap numbers_of (item_answer text line e ∙ ap (λ (k : ℕ). Ok (asked_item k (items_in text))) z))

pub numbers_line : (text : List ℕ) (line : ℕ) → read_refusal text ≡ 0 → (line ≡ 0 → ⊥) → Ok (line_read (line_at text line)) ≡ numbers_read text line
numbers_line text zero e h = absurd (h refl)
numbers_line text (suc k) e h = sym (line_answer text k e)

-- ---- the item from its numbers
abbrev pub item_back : Result (Option Row) NoSheet → Result (Option Item) NoSheet
item_back (Err r) = Err r
item_back (Ok found) = Ok (option_map item_of found)

-- a row mapped
pub mapped : (found : Option Row) (item : Option Item) → MatchOption found (item ≡ None) (λ r. IsSomeAnd item (λ i. i ≡ item_of r)) → item ≡ option_map item_of found
mapped None item h = h
mapped (Some r) None h = absurd h
mapped (Some r) (Some i) h = ap Some h

nth_back : (k : ℕ) (rs : List Row) → SmallRows rs → every is_item rs ≡ true → item_back (numbers_of (Ok (nth_item k (map item_of rs)))) ≡ Ok (nth_item k (map item_of rs))
unfolding nth_item every
nth_back k [] small e = refl
nth_back zero (r ∷ rs) (one_row fit small) e = ap (λ (t : Row). Ok (Some (item_of t))) (row_back r fit.value_small (both_true (is_item r) (every is_item rs) e).0)
nth_back (suc k) (r ∷ rs) (one_row fit small) e = nth_back k rs small (both_true (is_item r) (every is_item rs) e).1

pub small_following : (rows : List Row) → SmallRows rows → SmallRows (following rows)
small_following [] small = small
small_following (r ∷ rs) (one_row fit small) = small

pub item_back_holds : (text : List ℕ) (line : ℕ) → item_back (numbers_read text line) ≡ item_read text line
unfolding numbers_read items_in
item_back_holds text line = by_test (eqb (read_refusal text) 0) (λ t. given line (eqb-true (read_refusal text) 0 t)) (λ t. let r = item_refused text line t in ap (λ (x : Result (Option Item) NoSheet). item_back (numbers_of x)) r ∙ sym r)
  where
    asked : (line : ℕ) → Accepted text → item_back (numbers_of (Ok (asked_item line (map item_of (following (rows_in text)))))) ≡ Ok (asked_item line (map item_of (following (rows_in text))))
    asked zero a = refl
    asked (suc k) a = nth_back k (following (rows_in text)) (small_following (rows_in text) (text_written text a.form).1) (body_items (rows_in text) a.sheet)

    given : (line : ℕ) → read_refusal text ≡ 0 → item_back (numbers_of (item_read text line)) ≡ item_read text line
    given line e = let r = item_answer text line e in ap (λ (x : Result (Option Item) NoSheet). item_back (numbers_of x)) r ∙ asked line (accepted_view text e) ∙ sym r
