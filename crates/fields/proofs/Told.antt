-- A line by the four numbers and the byte that are read of it. Assumes nothing.
use mathlib.Core.Path.{◌≡◌, refl, sym, ap, ◌∙◌}
use mathlib.Core.Bool.{Bool, true, false, ◌&&◌, cond}
use mathlib.Core.List.{List}
use Prim.Native.Nat.{ℕ, ◌+◌, ◌-◌, ◌*◌, ◌≤◌, ◌<◌}
use native.Mathlib.Nat.{add-zero, min-le_right}
use native.Mathlib.Omega.{arith}
use borrow.Author.Tests.{eq-eqb, ne_eqb}
use lib.Dec.{eqb}
use lib.ListN.{length, take, drop, get_or, length-take, length-drop}
use lib.Seq.{get_or-take, get_or-drop, take-take, drop-drop, length-take-le}
use Rattle.std.specs.Prelude.{Option, None, Some}
use Rattle.lines.specs.declared.Row.{Row}
use Rattle.fields.specs.Fields.{is_field, field_value, columns_from, is_line, row_in, line_read, line_at, line_count, value_in}
use Rattle.fields.proofs.Walks.{columns_rest}

-- ---- the bytes of a line
-- a line that ends before the text does
pub line_long : (text : List ℕ) (i : ℕ) → 45 * i + 45 ≤ length text → length (line_at text i) ≡ 45
line_long text i h = length-take-le 45 (drop (45 * i) text) (omega (arith, h, length-drop (45 * i) text))

pub line_columns : (text : List ℕ) (i k : ℕ) → k ≤ 34 → 45 * i + 45 ≤ length text → columns_from k (line_at text i) ≡ columns_from (45 * i + k) text
line_columns text i k l h =
    let x = drop (45 * i) text in
    let whole : k + (45 - k) ≡ 45 = omega arith in
    let long : 45 ≤ length x = omega (arith, h, length-drop (45 * i) text) in
    ap (λ (n : ℕ). take 11 (drop k (take n x))) (sym whole)
    ∙ ap (take 11) (columns_rest k (45 - k) x (omega arith))
    ∙ take-take 11 (45 - k) (drop k x) (omega arith)
    ∙ ap (take 11) (drop-drop k (45 * i) text)

line_end : (text : List ℕ) (i : ℕ) → get_or (line_at text i) 44 0 ≡ get_or text (45 * i + 44) 0
line_end text i = get_or-take 45 (drop (45 * i) text) 44 0 (omega arith) ∙ get_or-drop (45 * i) text 44 0

-- ---- a line
-- what is read of a line, by what its columns hold and whether a line feed follows them
abbrev pub joined : Option ℕ → Option ℕ → Option ℕ → Option ℕ → Bool → Option Row
joined None side number value feed = None
joined (Some k) None number value feed = None
joined (Some k) (Some s) None value feed = None
joined (Some k) (Some s) (Some n) None feed = None
joined (Some k) (Some s) (Some n) (Some v) feed = cond feed (Some (record { kind = k; side = s; number = n; value = v })) None

-- of the bytes of the line
joined_bytes : (l : List ℕ) → length l ≡ 45
    → joined (value_in (columns_from 0 l)) (value_in (columns_from 11 l)) (value_in (columns_from 22 l)) (value_in (columns_from 33 l)) (eqb (get_or l 44 0) 10) ≡ line_read l
unfolding line_read is_line row_in value_in
joined_bytes l h =
    go (is_field (columns_from 0 l)) (is_field (columns_from 11 l)) (is_field (columns_from 22 l)) (is_field (columns_from 33 l)) (eqb (get_or l 44 0) 10)
    ∙ ap (λ (b : Bool). cond (b && (is_field (columns_from 0 l) && (is_field (columns_from 11 l) && (is_field (columns_from 22 l) && (is_field (columns_from 33 l) && eqb (get_or l 44 0) 10))))) (Some (row_in l)) None) (sym (eq-eqb (length l) 45 h))
  where
    go : (a b c d e : Bool)
        → joined (cond a (Some (field_value (columns_from 0 l))) None) (cond b (Some (field_value (columns_from 11 l))) None) (cond c (Some (field_value (columns_from 22 l))) None) (cond d (Some (field_value (columns_from 33 l))) None) e
        ≡ cond (a && (b && (c && (d && e)))) (Some (row_in l)) None
    go false b c d e = refl
    go true false c d e = refl
    go true true false d e = refl
    go true true true false e = refl
    go true true true true e = refl

-- of those of the text
pub line_told : (text : List ℕ) (i : ℕ) (kind side number value : Option ℕ) (feed : Bool) → 45 * i + 45 ≤ length text
    → kind ≡ value_in (columns_from (45 * i) text) → side ≡ value_in (columns_from (45 * i + 11) text) → number ≡ value_in (columns_from (45 * i + 22) text) → value ≡ value_in (columns_from (45 * i + 33) text)
    → eqb (get_or text (45 * i + 44) 0) 10 ≡ feed → joined kind side number value feed ≡ line_read (line_at text i)
line_told text i kind side number value feed h ek es en ev ef =
    let k : kind ≡ value_in (columns_from 0 (line_at text i)) = ek ∙ ap (λ (at : ℕ). value_in (columns_from at text)) (sym (add-zero (45 * i))) ∙ ap value_in (sym (line_columns text i 0 (omega arith) h)) in
    let s : side ≡ value_in (columns_from 11 (line_at text i)) = es ∙ ap value_in (sym (line_columns text i 11 (omega arith) h)) in
    let n : number ≡ value_in (columns_from 22 (line_at text i)) = en ∙ ap value_in (sym (line_columns text i 22 (omega arith) h)) in
    let v : value ≡ value_in (columns_from 33 (line_at text i)) = ev ∙ ap value_in (sym (line_columns text i 33 (omega arith) h)) in
    simp (k, s, n, v, sym (ap (λ (b : ℕ). eqb b 10) (line_end text i) ∙ ef)) (joined_bytes (line_at text i) (line_long text i h))

-- past the last line
pub line_past : (text : List ℕ) (i : ℕ) → line_count text ≤ i → None ≡ line_read (line_at text i)
unfolding line_read is_line
line_past text i h =
    let few : length (drop (45 * i) text) < 45 = omega (arith, h, length-drop (45 * i) text) in
    let short : (length (line_at text i) ≡ 45 → ⊥) = λ e. omega (arith, few, e, length-take 45 (drop (45 * i) text), min-le_right 45 (length (drop (45 * i) text))) in
    sym (simp (ne_eqb (length (line_at text i)) 45 short))
