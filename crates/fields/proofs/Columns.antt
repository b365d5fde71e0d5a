-- A number read from its columns is the number, and columns that can be read are those of the number. Assumes nothing.
use mathlib.Core.Path.{◌≡◌, refl, sym, ap, ap₂, subst, ◌∙◌}
use mathlib.Core.Bool.{Bool, true, false, not, ◌&&◌, cond, true≢false}
use mathlib.Core.List.{List, [], ◌∷◌}
use Prim.Native.Nat.{ℕ, zero, suc, ◌+◌, ◌-◌, ◌*◌, ◌/◌, ◌%◌, ◌^◌, ◌≤◌, ◌<◌}
use native.Mathlib.Nat.{div-eq_of_lt}
use native.Mathlib.Omega.{arith}
use borrow.Author.Tests.{eqb-true, eqb-false, ne_eqb, ltb-true, lt-ltb, ltb-false, leb-true, le-leb, not-true}
use lib.Dec.{eqb, ltb}
use lib.ListN.{length, drop}
use Rattle.lists.proofs.Bools.{both, both_true, by_test}
use Rattle.numbers.specs.Numbers.{is_digit, all_digits, value_from, value_of, is_small}
use Rattle.lines.specs.Line.{columns_of}
use Rattle.fields.specs.Fields.{blank_first, blanks_in, after_blanks, is_some, has_leading_zero, is_written, is_field, field_value}
use Rattle.fields.proofs.DigitLaws.{ten_pos, div_below, below_div, digit_range, mod_digit, digits_of, digits_are, digits_value, value_over, value_digits}
use Rattle.fields.proofs.Places.{more, places_of, columns_places, last_place, places_digits}

-- ---- written, then read
-- the columns are read as v
abbrev Reads : ℕ → List ℕ → Type 0
Reads v f = (is_field f ≡ true) × (field_value f ≡ v)

-- no blank in front of a digit
no_blanks : (b : ℕ) (f : List ℕ) → is_digit b ≡ true → after_blanks (b ∷ f) ≡ b ∷ f
unfolding blanks_in
no_blanks b f e =
    ap (λ (t : Bool). drop (blank_first t (blanks_in f)) (b ∷ f)) (ne_eqb b 32 (λ (q : b ≡ 32). let d = digit_range b e in omega (arith, d.0)))

first_digit : (n v : ℕ) → v < 10 ^ suc n → 10 ^ n ≤ v → 48 + v / 10 ^ n % 10 ≡ 48 → ⊥
first_digit n v h l e = plain (v / 10 ^ n) (below_div v (10 ^ n) 10 (ten_pos n) (omega arith)) e (λ (z : v / 10 ^ n < 1). omega (arith, div_below v (10 ^ n) 1 (ten_pos n) z))
  where
    plain : (q : ℕ) → q < 10 → 48 + q % 10 ≡ 48 → (q < 1 → ⊥) → ⊥
    plain q a b c = c (omega arith)

no_zero : (n v : ℕ) → v < 10 ^ suc n → 10 ^ n ≤ v → has_leading_zero (digits_of (suc n) v) ≡ false
unfolding digits_of
no_zero zero v h l = refl
no_zero (suc n) v h l = ne_eqb (48 + v / 10 ^ suc n % 10) 48 (first_digit (suc n) v h l)

digits_read : (n v : ℕ) → v ≤ 4294967295 → v < 10 ^ suc n → has_leading_zero (digits_of (suc n) v) ≡ false → Reads v (digits_of (suc n) v)
unfolding digits_of is_written
digits_read n v s h z =
    let f : List ℕ = (48 + v / 10 ^ n % 10) ∷ digits_of n v in
    let whole : after_blanks f ≡ f = no_blanks (48 + v / 10 ^ n % 10) (digits_of n v) (mod_digit (v / 10 ^ n)) in
    let value : value_of f ≡ v = ap (λ (w : ℕ). value_from w f) (sym (div-eq_of_lt h)) ∙ digits_value (suc n) v in
    let small : is_small (value_of f) ≡ true = le-leb (value_of f) 4294967295 (omega arith) in (
      ap is_written whole ∙ both (not (has_leading_zero f)) (all_digits f && is_small (value_of f)) (ap not z) (both (all_digits f) (is_small (value_of f)) (digits_are (suc n) v) small),
      ap value_of whole ∙ value,
    )

places_read : (n v : ℕ) → v ≤ 4294967295 → v < 10 ^ suc n → Reads v (places_of (suc n) v)
unfolding places_of digits_of blanks_in
places_read zero v s h = subst (Reads v) (sym (last_place v)) (digits_read zero v s h refl)
places_read (suc n) v s h =
    by_test (ltb v (10 ^ suc n))
    (λ (e : ltb v (10 ^ suc n) ≡ true).
    subst (λ (b : Bool). Reads v (cond (b && true) 32 (48 + v / 10 ^ suc n % 10) ∷ places_of (suc n) v)) (sym e) (places_read n v s (ltb-true v (10 ^ suc n) e)))
    (λ (e : ltb v (10 ^ suc n) ≡ false).
    let l = ltb-false v (10 ^ suc n) e in
    subst (Reads v) (sym (places_digits (suc n) v l)) (digits_read (suc n) v s h (no_zero (suc n) v h l)))

pub columns_read : (v : ℕ) → v ≤ 4294967295 → (is_field (columns_of v) ≡ true) × (field_value (columns_of v) ≡ v)
columns_read v h = subst (Reads v) (sym (columns_places v)) (places_read 10 v h (omega arith))

-- ---- read, then written
-- the parts of what may be written
written_parts : (b : ℕ) (f : List ℕ) → is_written (b ∷ f) ≡ true → (has_leading_zero (b ∷ f) ≡ false) × (all_digits (b ∷ f) ≡ true)
unfolding is_written
written_parts b f e =
    let h = both_true (not (has_leading_zero (b ∷ f))) (all_digits (b ∷ f) && is_small (value_of (b ∷ f))) e in
    (not-true (has_leading_zero (b ∷ f)) h.0, (both_true (all_digits (b ∷ f)) (is_small (value_of (b ∷ f))) h.1).0)

pub small_written : (f : List ℕ) → is_written f ≡ true → value_of f ≤ 4294967295
unfolding is_written
small_written f e =
    let h = both_true (is_some f) (not (has_leading_zero f) && (all_digits f && is_small (value_of f))) e in
    let k = both_true (not (has_leading_zero f)) (all_digits f && is_small (value_of f)) h.1 in
    leb-true (value_of f) 4294967295 (both_true (all_digits f) (is_small (value_of f)) k.1).1

-- a number that has something left of its last digits
left_large : (v p : ℕ) → 0 < v / p → p ≤ v
left_large v p h = by_test (ltb v p) (λ (e : ltb v p ≡ true). absurd (omega (arith, div-eq_of_lt (ltb-true v p e)))) (λ (e : ltb v p ≡ false). ltb-false v p e)

value_large : (b : ℕ) (f : List ℕ) → (b ≡ 48 → ⊥) → all_digits (b ∷ f) ≡ true → 10 ^ length f ≤ value_of (b ∷ f)
unfolding all_digits value_from
value_large b f n e =
    let h = both_true (is_digit b) (all_digits f) e in
    let d = digit_range b h.0 in
    left_large (value_of (b ∷ f)) (10 ^ length f) (omega (arith, d.0, value_over f (10 * 0 + (b - 48)) h.1))

-- digits with no zero at the front
digits_fill : (b : ℕ) (f : List ℕ) → has_leading_zero (b ∷ f) ≡ false → all_digits (b ∷ f) ≡ true → places_of (suc (length f)) (value_of (b ∷ f)) ≡ b ∷ f
digits_fill b [] z e = last_place (value_of (b ∷ [])) ∙ value_digits (b ∷ []) 0 e
digits_fill b (c ∷ f) z e =
    places_digits (length (c ∷ f)) (value_of (b ∷ c ∷ f)) (value_large b (c ∷ f) (eqb-false b 48 z) e) ∙ value_digits (b ∷ c ∷ f) 0 e

value_below : (f : List ℕ) → all_digits f ≡ true → value_of f < 10 ^ length f
value_below f e = omega (arith, div_below (value_of f) (10 ^ length f) 1 (ten_pos (length f)) (omega (arith, value_over f 0 e)))

-- columns with a number are not empty
some_column : (cs : List ℕ) → is_field cs ≡ true → more (length cs) ≡ true
unfolding blanks_in is_written
some_column [] e = e
some_column (b ∷ cs) e = refl

one_more : (v n : ℕ) → v < 10 ^ n → v < 10 ^ suc n
one_more v n h = omega arith

places_written : (cs : List ℕ) → is_field cs ≡ true → (places_of (length cs) (field_value cs) ≡ cs) × (field_value cs < 10 ^ length cs)
unfolding blanks_in is_written places_of
places_written [] e = absurd (true≢false (sym e))
places_written (b ∷ cs) e = go (eqb b 32) refl (places_written cs) e
  where
    go : (t : Bool) → eqb b 32 ≡ t → (is_field cs ≡ true → (places_of (length cs) (field_value cs) ≡ cs) × (field_value cs < 10 ^ length cs))
        → is_written (drop (blank_first t (blanks_in cs)) (b ∷ cs)) ≡ true
        → (places_of (length (b ∷ cs)) (value_of (drop (blank_first t (blanks_in cs)) (b ∷ cs))) ≡ b ∷ cs) × (value_of (drop (blank_first t (blanks_in cs)) (b ∷ cs)) < 10 ^ length (b ∷ cs))
    go true q ih w =
        let h = ih w in
        let v : ℕ = field_value cs in
        let blank : (ltb v (10 ^ length cs) && more (length cs)) ≡ true =
        both (ltb v (10 ^ length cs)) (more (length cs)) (lt-ltb v (10 ^ length cs) h.1) (some_column cs w) in (
          ap₂ {C = List ℕ} (λ (a : ℕ) (f : List ℕ). a ∷ f) (ap (λ (t : Bool). cond t 32 (48 + v / 10 ^ length cs % 10)) blank ∙ sym (eqb-true b 32 q)) h.0,
          one_more v (length cs) h.1,
        )
    go false q ih w = let h = written_parts b cs w in (digits_fill b cs h.0 h.1, value_below (b ∷ cs) h.1)

pub columns_written : (cs : List ℕ) → length cs ≡ 11 → is_field cs ≡ true → (columns_of (field_value cs) ≡ cs) × (field_value cs ≤ 4294967295)
columns_written cs l e =
    (columns_places (field_value cs) ∙ ap (λ (n : ℕ). places_of n (field_value cs)) (sym l) ∙ (places_written cs e).0, small_written (after_blanks cs) e)
