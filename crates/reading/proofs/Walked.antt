-- The walk over the lines of a text tells whether it is a sheet. Assumes nothing.
use mathlib.Core.Path.{◌≡◌, refl, sym, ap, ap₂, ◌∙◌}
use mathlib.Core.Bool.{Bool, true, false, not, ◌&&◌, ◌||◌, cond, true≢false}
use mathlib.Core.List.{List, [], ◌∷◌, map}
use Prim.Native.Nat.{ℕ, zero, suc, ◌+◌, ◌*◌, ◌/◌, ◌%◌, ◌^◌, ◌≤◌, ◌<◌}
use native.Mathlib.Nat.{one-mul, mod-eq_of_lt}
use native.Mathlib.Numerals.{add-one}
use native.Mathlib.Omega.{arith}
use borrow.Author.Tests.{eqb-true, eq-eqb, ne_eqb}
use lib.Dec.{eqb}
use lib.ListN.{length, drop, length-take, drop_of_length-le}
use lib.Seq.{drop-cons}
use lib.Pow.{pow-lt}
use Rattle.std.specs.Prelude.{Option, None, Some}
use Rattle.lists.specs.Every.{every_to}
use Rattle.lists.specs.Table.{table}
use Rattle.lists.proofs.Bools.{both_true, same_test}
use Rattle.lists.proofs.Table.{length_table, table_at}
use Rattle.lines.specs.declared.Row.{Row}
use Rattle.fields.specs.Fields.{is_line, row_in, line_read, line_at, line_count, column_form, rows_in}
use Rattle.fields.proofs.Texts.{every_first}
use Rattle.items.specs.Items.{is_item}
use Rattle.items.proofs.View.{item_number}
use Rattle.reading.specs.Rules.{not_before, is_body, is_header, is_sheet}
use Rattle.reading.specs.Reading.{counted}
use Rattle.reading.specs.Walk.{linked, fits_after, seen_after, opens, after_line, next, lines_in, walked, broken, whole, counted_by, accepts}
use Rattle.reading.specs.declared.Walk.{Walk}
use Rattle.reading.specs.declared.Walk.TheVariants.{NotLines, Breach, Start, After}
use Rattle.reading.proofs.Accepts.{accepts_body}

-- the flag of a player's number fits a word
pub one_flag : (n : ℕ) → n ≤ 20 → 1 * 2 ^ n % 4294967296 ≡ 2 ^ n
one_flag n h = ap (λ (k : ℕ). k % 4294967296) (one-mul (2 ^ n)) ∙ mod-eq_of_lt (pow-lt {i = n} {j = 32} (omega arith))

-- a line that fits has a number up to 20
pub fits_number : (l : Row) (seen : ℕ) (r : Row) → fits_after l seen r ≡ true → r.number ≤ 20
unfolding fits_after
fits_number l seen r e = item_number r (both_true (is_item r) (not_before l r && linked l seen r) e).0

-- ---- the loop
-- a turn
pub walk_turn : (text : List ℕ) (w next-w : Walk) (i : ℕ) → i < line_count text → next-w ≡ next w (line_read (line_at text i)) → walked w (drop i (lines_in text)) ≡ walked Start (lines_in text) → walked next-w (drop (i + 1) (lines_in text)) ≡ walked Start (lines_in text)
unfolding lines_in
walk_turn text w next-w i h e inv =
    let ls = table (line_count text) (λ k. line_read (line_at text k)) in
    let far : i < length ls = omega (arith, h, length_table (line_count text) (λ k. line_read (line_at text k))) in
    let line : drop i ls ≡ line_read (line_at text i) ∷ drop (suc i) ls = drop-cons ls i None far ∙ ap (λ (x : Option Row). x ∷ drop (suc i) ls) (table_at (line_count text) (λ k. line_read (line_at text k)) None i h) in
    ap₂ (λ (v : Walk) (k : ℕ). walked v (drop k ls)) e (add-one i) ∙ sym (walked_on w (line_read (line_at text i)) (drop (suc i) ls)) ∙ ap (walked w) (sym line) ∙ inv
  where
    walked_on : (w : Walk) (x : Option Row) (xs : List (Option Row)) → walked w (x ∷ xs) ≡ walked (next w x) xs
    walked_on w x xs = unfold walked in refl

-- the end
pub walk_done : (text : List ℕ) (w : Walk) (i : ℕ) → line_count text ≤ i → walked w (drop i (lines_in text)) ≡ walked Start (lines_in text) → w ≡ walked Start (lines_in text)
unfolding lines_in
walk_done text w i h inv =
    let ls = table (line_count text) (λ k. line_read (line_at text k)) in
    let none : drop i ls ≡ [] = drop_of_length-le ls {i = i} (omega (arith, h, length_table (line_count text) (λ k. line_read (line_at text k)))) in
    nothing w ∙ ap (walked w) (sym none) ∙ inv
  where
    nothing : (w : Walk) → w ≡ walked w []
    nothing w = unfold walked in refl

-- ---- lines that are none
-- all are lines
abbrev all_read : List (Option Row) → Bool
all_read [] = true
all_read (None ∷ ls) = false
all_read (Some r ∷ ls) = all_read ls

or_true : (b : Bool) → true ≡ (b || true)
or_true true = refl
or_true false = refl

or_false : (b : Bool) → b ≡ (b || false)
or_false true = refl
or_false false = refl

not_broken : (b : Bool) (seen : ℕ) (r : Row) → broken (after_line b seen r) ≡ false
not_broken true seen r = refl
not_broken false seen r = refl

row_kept : (w : Walk) (r : Row) → broken (next w (Some r)) ≡ broken w
row_kept NotLines r = refl
row_kept Breach r = refl
row_kept Start r = not_broken (opens r) 0 r
row_kept (After l seen) r = not_broken (fits_after l seen r) (seen_after l seen r) r

broken_told : (w : Walk) (ls : List (Option Row)) → broken (walked w ls) ≡ (broken w || not (all_read ls))
unfolding walked
broken_told w [] = or_false (broken w)
broken_told w (None ∷ ls) = broken_told NotLines ls ∙ or_true (broken w)
broken_told w (Some r ∷ ls) = broken_told (next w (Some r)) ls ∙ ap (λ (b : Bool). b || not (all_read ls)) (row_kept w r)

-- the line alone
read_first : (l : List ℕ) (ls : List (Option Row)) → all_read (line_read l ∷ ls) ≡ (is_line l && all_read ls)
unfolding line_read
read_first l ls = go (is_line l)
  where
    go : (b : Bool) → all_read (cond b (Some (row_in l)) None ∷ ls) ≡ (b && all_read ls)
    go true = refl
    go false = refl

all_read_holds : (n : ℕ) (f : ℕ → List ℕ) → all_read (table n (λ i. line_read (f i))) ≡ every_to n (λ i. is_line (f i))
all_read_holds zero f = unfold every_to in refl
all_read_holds (suc n) f =
    read_first (f 0) (table n (λ i. line_read (f (suc i))))
    ∙ ap (λ (b : Bool). is_line (f 0) && b) (all_read_holds n (λ i. f (suc i)))
    ∙ sym (every_first n (λ i. is_line (f i)))

form_of : (a b : Bool) → (a && b) ≡ not (not b || not a)
form_of true true = refl
form_of true false = refl
form_of false true = refl
form_of false false = refl

-- 9
pub form_told : (text : List ℕ) → column_form text ≡ not (broken (walked Start (lines_in text)) || not (eqb (length text % 45) 0))
unfolding column_form lines_in
form_told text =
    form_of (eqb (length text % 45) 0) (every_to (line_count text) (λ i. is_line (line_at text i)))
    ∙ ap (λ (b : Bool). not (b || not (eqb (length text % 45) 0)))
    (ap not (sym (all_read_holds (line_count text) (line_at text))) ∙ sym (broken_told Start (table (line_count text) (λ i. line_read (line_at text i)))))

-- ---- lines
pub line_is : (l : List ℕ) → is_line l ≡ true → line_read l ≡ Some (row_in l)
unfolding line_read
line_is l e = ap (λ (b : Bool). cond b (Some (row_in l)) None) e

rows_of : (n : ℕ) (f : ℕ → List ℕ) → every_to n (λ i. is_line (f i)) ≡ true → table n (λ i. line_read (f i)) ≡ map Some (table n (λ i. row_in (f i)))
rows_of zero f e = refl
rows_of (suc n) f e =
    let p = both_true (is_line (f 0)) (every_to n (λ i. is_line (f (suc i)))) (sym (every_first n (λ i. is_line (f i))) ∙ e) in
    ap₂ (λ (x : Option Row) (xs : List (Option Row)). x ∷ xs) (line_is (f 0) p.0) (rows_of n (λ i. f (suc i)) p.1)

pub every_line : (text : List ℕ) → column_form text ≡ true → every_to (line_count text) (λ i. is_line (line_at text i)) ≡ true
unfolding column_form
every_line text e = (both_true (eqb (length text % 45) 0) (every_to (line_count text) (λ i. is_line (line_at text i))) e).1

lines_rows : (text : List ℕ) → column_form text ≡ true → lines_in text ≡ map Some (rows_in text)
unfolding lines_in rows_in
lines_rows text e = rows_of (line_count text) (line_at text) (every_line text e)

-- ---- 10
eqb_suc : (a b : ℕ) → eqb (a + 1) (suc b) ≡ eqb a b
eqb_suc a b =
    same_test (eqb (a + 1) (suc b)) (eqb a b)
    (λ e. eq-eqb a b (let p = eqb-true (a + 1) (suc b) e in omega (arith, p)))
    (λ e. eq-eqb (a + 1) (suc b) (let p = eqb-true a b e in omega (arith, p)))

pub short_line : (l : List ℕ) → length l < 45 → line_read l ≡ None
unfolding line_read is_line
short_line l h = simp (ne_eqb (length l) 45 (λ e. omega (arith, h, e)))

pub counted_told : (text : List ℕ) → column_form text ≡ true → counted_by (line_read (line_at text 0)) (line_count text) ≡ counted (rows_in text)
unfolding rows_in
counted_told text e = go (line_count text) refl (every_line text e)
  where
    first : (n : ℕ) (r : Row) (rs : List Row) → length rs ≡ n → counted_by (Some r) (suc n) ≡ counted (r ∷ rs)
    first n r rs h = ap (λ (b : Bool). not (eqb r.kind 0) || b) (eqb_suc r.number n ∙ ap (eqb r.number) (sym h))

    go : (n : ℕ) → length text / 45 ≡ n → every_to n (λ i. is_line (line_at text i)) ≡ true → counted_by (line_read (line_at text 0)) n ≡ counted (table n (λ i. row_in (line_at text i)))
    go zero p every = ap (λ (x : Option Row). counted_by x 0) (short_line (line_at text 0) (omega (arith, p, length-take 45 text)))
    go (suc n) p every =
        let q = both_true (is_line (line_at text 0)) (every_to n (λ i. is_line (line_at text (suc i)))) (sym (every_first n (λ i. is_line (line_at text i))) ∙ every) in
        ap (λ (x : Option Row). counted_by x (suc n)) (line_is (line_at text 0) q.0)
        ∙ first n (row_in (line_at text 0)) (table n (λ i. row_in (line_at text (suc i)))) (length_table n (λ i. row_in (line_at text (suc i))))

-- ---- 11
breach_stays : (rs : List Row) → whole (walked Breach (map Some rs)) ≡ false
unfolding walked
breach_stays [] = refl
breach_stays (r ∷ rs) = breach_stays rs

whole_told : (l : Row) (seen : ℕ) (rs : List Row) → whole (walked (After l seen) (map Some rs)) ≡ accepts l seen rs
unfolding walked accepts
whole_told l seen [] = refl
whole_told l seen (r ∷ rs) = go (fits_after l seen r) (whole_told r (seen_after l seen r) rs)
  where
    go : (b : Bool) → whole (walked (After r (seen_after l seen r)) (map Some rs)) ≡ accepts r (seen_after l seen r) rs
        → whole (walked (after_line b (seen_after l seen r) r) (map Some rs)) ≡ (b && accepts r (seen_after l seen r) rs)
    go true more = more
    go false more = breach_stays rs

-- a header whose count is right
header_told : (r : Row) (rs : List Row) → counted (r ∷ rs) ≡ true → opens r ≡ is_header r (length rs)
header_told r rs h = go (eqb r.kind 0) (eqb r.side 2) (eqb r.number (length rs)) h
  where
    go : (k s n : Bool) → (not k || n) ≡ true → (k && (s && eqb r.value 1)) ≡ (k && (s && (n && eqb r.value 1)))
    go false s n e = refl
    go true false n e = refl
    go true true true e = refl
    go true true false e = absurd (true≢false (sym e))

pub sheet_told : (text : List ℕ) → column_form text ≡ true → counted (rows_in text) ≡ true → whole (walked Start (lines_in text)) ≡ is_sheet (rows_in text)
sheet_told text e c = ap (λ (ls : List (Option Row)). whole (walked Start ls)) (lines_rows text e) ∙ go (rows_in text) c
  where
    opened : (b : Bool) (r : Row) (rs : List Row) → opens r ≡ b → whole (walked (after_line b 0 r) (map Some rs)) ≡ (b && is_body rs)
    opened true r rs o = whole_told r 0 rs ∙ accepts_body r rs (eqb-true r.kind 0 (both_true (eqb r.kind 0) (eqb r.side 2 && eqb r.value 1) o).0)
    opened false r rs o = breach_stays rs

    go : (rows : List Row) → counted rows ≡ true → whole (walked Start (map Some rows)) ≡ is_sheet rows
    go [] h = unfold walked in refl
    go (r ∷ rs) h = start r rs ∙ opened (opens r) r rs refl ∙ ap (λ (b : Bool). b && is_body rs) (header_told r rs h)
      where
        start : (r : Row) (rs : List Row) → whole (walked Start (map Some (r ∷ rs))) ≡ whole (walked (after_line (opens r) 0 r) (map Some rs))
        start r rs = unfold walked in refl
