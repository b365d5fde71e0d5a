-- What the loops over the blanks and over the digits of a number keep. Assumes nothing.
use mathlib.Core.Path.{◌≡◌, refl, sym, ap, ◌∙◌}
use mathlib.Core.Bool.{Bool, true, false, not, ◌&&◌, cond}
use mathlib.Core.List.{List, [], ◌∷◌}
use Prim.Native.Nat.{ℕ, suc, ◌+◌, ◌-◌, ◌*◌, ◌≤◌, ◌<◌}
use native.Mathlib.Nat.{add-zero}
use native.Mathlib.Numerals.{add-one}
use native.Mathlib.Omega.{arith}
use borrow.Author.Tests.{eq-eqb, ne_eqb, le-leb, lt-leb}
use lib.ListN.{length, take, drop, get_or, length-drop, drop_of_length-le}
use lib.Seq.{drop-cons, drop_at, drop-drop, get_or-take, get_or-drop, take-add, length-take-le, slice, slice-cons}
use Rattle.std.specs.Prelude.{None, Some}
use Rattle.numbers.specs.Numbers.{is_digit, is_small, all_digits, value_from, value_of}
use Rattle.numbers.proofs.Continued.{value_grows}
use Rattle.fields.specs.Fields.{blank_first, blanks_in, after_blanks, is_some, has_leading_zero, is_written, columns_from, digits_from, value_in}

-- ---- columns of a text
pub length_columns_from : (text : List ℕ) (at : ℕ) → at + 11 ≤ length text → length (columns_from at text) ≡ 11
length_columns_from text at h = length-take-le 11 (drop at text) (omega (arith, length-drop at text))

pub column_byte : (text : List ℕ) (at n : ℕ) → n < 11 → get_or (columns_from at text) n 0 ≡ get_or text (at + n) 0
column_byte text at n h = get_or-take 11 (drop at text) n 0 h ∙ get_or-drop at text n 0

-- those from the n-th on
pub columns_rest : (n m : ℕ) (l : List ℕ) → n ≤ length l → drop n (take (n + m) l) ≡ take m (drop n l)
columns_rest n m l h = ap (drop n) (take-add n m l) ∙ drop_at (take n l) (take m (drop n l)) n (length-take-le n l h)

-- ---- blanks
blank_here : (b : ℕ) (bs : List ℕ) → b ≡ 32 → blanks_in (b ∷ bs) ≡ suc (blanks_in bs)
unfolding blanks_in
blank_here b bs e = ap (λ (t : Bool). blank_first t (blanks_in bs)) (eq-eqb b 32 e)

no_blank : (b : ℕ) (bs : List ℕ) → (b ≡ 32 → ⊥) → blanks_in (b ∷ bs) ≡ 0
unfolding blanks_in
no_blank b bs e = ap (λ (t : Bool). blank_first t (blanks_in bs)) (ne_eqb b 32 e)

no_column : blanks_in [] ≡ 0
unfolding blanks_in
no_column = refl

-- a turn
pub blank_turn : (cs : List ℕ) (n : ℕ) → n < length cs → get_or cs n 0 ≡ 32 → blanks_in cs ≡ n + blanks_in (drop n cs) → blanks_in cs ≡ n + 1 + blanks_in (drop (n + 1) cs)
blank_turn cs n h e inv =
    let here : blanks_in (drop n cs) ≡ suc (blanks_in (drop (suc n) cs)) = ap blanks_in (drop-cons cs n 0 h) ∙ blank_here (get_or cs n 0) (drop (suc n) cs) e in
    let on : drop (suc n) cs ≡ drop (n + 1) cs = ap (λ (k : ℕ). drop k cs) (sym (add-one n)) in
    let same : blanks_in (drop (suc n) cs) ≡ blanks_in (drop (n + 1) cs) = ap blanks_in on in
    omega (arith, inv, here, same)

-- the first byte that is no blank
pub blank_stop : (cs : List ℕ) (n : ℕ) → n < length cs → (get_or cs n 0 ≡ 32 → ⊥) → blanks_in cs ≡ n + blanks_in (drop n cs) → n ≡ blanks_in cs
blank_stop cs n h e inv =
    let here : blanks_in (drop n cs) ≡ 0 = ap blanks_in (drop-cons cs n 0 h) ∙ no_blank (get_or cs n 0) (drop (suc n) cs) e in
    omega (arith, inv, here)

-- no byte is left
pub blank_end : (cs : List ℕ) (n : ℕ) → length cs ≤ n → blanks_in cs ≡ n + blanks_in (drop n cs) → n ≡ blanks_in cs
blank_end cs n h inv = let none : blanks_in (drop n cs) ≡ 0 = ap blanks_in (drop_of_length-le cs h) ∙ no_column in omega (arith, inv, none)

-- ---- digits
-- a digit
digit_on : (v b : ℕ) (f : List ℕ) → is_digit b ≡ true → digits_from v (b ∷ f) ≡ digits_from (10 * v + (b - 48)) f
unfolding digits_from all_digits value_from
digit_on v b f e = simp e

-- another byte
other_on : (v b : ℕ) (f : List ℕ) → is_digit b ≡ false → digits_from v (b ∷ f) ≡ None
unfolding digits_from all_digits
other_on v b f e = simp e

-- a value that is too large stays so
pub large_on : (v : ℕ) (f : List ℕ) → 4294967295 < v → digits_from v f ≡ None
unfolding digits_from
large_on v f h = go (all_digits f) (is_small (value_from v f)) (lt-leb (value_from v f) 4294967295 (omega (arith, value_grows v f)))
  where
    go : (d s : Bool) → s ≡ false → cond (d && s) (Some (value_from v f)) None ≡ None
    go false s e = refl
    go true s e = ap (λ (t : Bool). cond t (Some (value_from v f)) None) e

-- the end
pub digits_end : (v : ℕ) (f : List ℕ) → f ≡ [] → v ≤ 4294967295 → Some v ≡ digits_from v f
unfolding digits_from all_digits value_from
digits_end v f e h = sym (ap (λ (g : List ℕ). cond (all_digits g && is_small (value_from v g)) (Some (value_from v g)) None) e ∙ ap (λ (t : Bool). cond t (Some v) None) (le-leb v 4294967295 h))

-- a turn, by the byte at i
pub digit_turn : (text : List ℕ) (i end v : ℕ) → i < end → end ≤ length text → is_digit (get_or text i 0) ≡ true → digits_from (10 * v + (get_or text i 0 - 48)) (slice (i + 1) end text) ≡ digits_from v (slice i end text)
digit_turn text i end v h l e =
    ap (λ (k : ℕ). digits_from (10 * v + (get_or text i 0 - 48)) (slice k end text)) (add-one i)
    ∙ sym (digit_on v (get_or text i 0) (slice (suc i) end text) e)
    ∙ ap (digits_from v) (sym (slice-cons i end text 0 h l))

pub other_turn : (text : List ℕ) (i end v : ℕ) → i < end → end ≤ length text → is_digit (get_or text i 0) ≡ false → None ≡ digits_from v (slice i end text)
other_turn text i end v h l e = sym (other_on v (get_or text i 0) (slice (suc i) end text) e) ∙ ap (digits_from v) (sym (slice-cons i end text 0 h l))

-- ---- the number in columns, by their blanks
-- with no digit
pub value_blank : (cs : List ℕ) → length cs ≤ blanks_in cs → None ≡ value_in cs
unfolding value_in is_written
value_blank cs h = sym (ap (λ (f : List ℕ). cond (is_written f) (Some (value_of f)) None) (drop_of_length-le cs h))

-- with a leading zero
pub value_zero : (cs : List ℕ) → suc (blanks_in cs) < length cs → get_or cs (blanks_in cs) 0 ≡ 48 → None ≡ value_in cs
unfolding value_in is_written
value_zero cs h e =
    let n = blanks_in cs in
    let two : drop n cs ≡ get_or cs n 0 ∷ get_or cs (suc n) 0 ∷ drop (suc (suc n)) cs = drop-cons cs n 0 (omega arith) ∙ ap (λ (f : List ℕ). get_or cs n 0 ∷ f) (drop-cons cs (suc n) 0 h) in
    sym
    (ap (λ (f : List ℕ). cond (is_written f) (Some (value_of f)) None) two
    ∙ ap (λ (z : Bool). cond (not z && (all_digits (get_or cs n 0 ∷ get_or cs (suc n) 0 ∷ drop (suc (suc n)) cs) && is_small (value_of (get_or cs n 0 ∷ get_or cs (suc n) 0 ∷ drop (suc (suc n)) cs)))) (Some (value_of (get_or cs n 0 ∷ get_or cs (suc n) 0 ∷ drop (suc (suc n)) cs))) None) (eq-eqb (get_or cs n 0) 48 e))

-- with neither
pub value_digits : (cs : List ℕ) → blanks_in cs < length cs → (suc (blanks_in cs) < length cs → get_or cs (blanks_in cs) 0 ≡ 48 → ⊥) → digits_from 0 (after_blanks cs) ≡ value_in cs
unfolding value_in is_written digits_from
value_digits cs h e = go (drop (blanks_in cs) cs) refl
  where
    go : (f : List ℕ) → drop (blanks_in cs) cs ≡ f → cond (all_digits f && is_small (value_of f)) (Some (value_of f)) None ≡ cond (is_some f && (not (has_leading_zero f) && (all_digits f && is_small (value_of f)))) (Some (value_of f)) None
    go [] p = absurd (let none : length (drop (blanks_in cs) cs) ≡ 0 = ap length p in omega (arith, length-drop (blanks_in cs) cs, none))
    go (b ∷ []) p = refl
    go (b ∷ b' ∷ f) p =
        let n = blanks_in cs in
        let long : length (drop n cs) ≡ suc (suc (length f)) = ap length p in
        let first : get_or cs n 0 ≡ b = sym (ap (λ (k : ℕ). get_or cs k 0) (add-zero n)) ∙ sym (get_or-drop n cs 0 0) ∙ ap (λ (l : List ℕ). get_or l 0 0) p in
        let no : (b ≡ 48 → ⊥) = λ z. e (omega (arith, long, length-drop n cs)) (first ∙ z) in
        ap (λ (t : Bool). cond (not t && (all_digits (b ∷ b' ∷ f) && is_small (value_of (b ∷ b' ∷ f)))) (Some (value_of (b ∷ b' ∷ f))) None) (sym (ne_eqb b 48 no))

-- the bytes that the digits are read from
pub digit_columns : (text : List ℕ) (at n : ℕ) → at ≤ length text → slice (at + n) (at + 11) text ≡ drop n (columns_from at text)
digit_columns text at n h = sym (drop-drop n at (take (at + 11) text)) ∙ ap (drop n) (columns_rest at 11 text h)
