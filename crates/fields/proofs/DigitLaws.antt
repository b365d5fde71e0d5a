-- The digits of a number in so many places, and the value of digits: each gives the other back. Assumes nothing.
use mathlib.Core.Path.{◌≡◌, refl, sym, ap, ap₂, ◌∙◌}
use mathlib.Core.Bool.{true}
use mathlib.Core.List.{List, [], ◌∷◌}
use Prim.Native.Nat.{ℕ, zero, suc, ◌+◌, ◌-◌, ◌*◌, ◌/◌, ◌%◌, ◌^◌, ◌≤◌, ◌<◌}
use native.Mathlib.Nat.{div-div-eq-div-mul, div-lt_iff_lt-mul, div-one, one-le-pow, pow-suc, mod-lt}
use native.Mathlib.Omega.{arith}
use borrow.Author.Tests.{leb-true, le-leb}
use lib.Dec.{leb, lit≤}
use lib.ListN.{length}
use Rattle.lists.proofs.Bools.{both, both_true}
use Rattle.numbers.specs.Numbers.{is_digit, all_digits, value_from}

-- ---- powers of 10
pub ten_pos : (n : ℕ) → 0 < 10 ^ n
ten_pos n = one-le-pow n 10 (lit≤ tt)

div_ten : (v n : ℕ) → v / 10 ^ suc n ≡ v / 10 ^ n / 10
div_ten v n = ap (λ (p : ℕ). v / p) (pow-suc 10 n) ∙ sym (div-div-eq-div-mul v (10 ^ n) 10)

pub div_below : (v p q : ℕ) → 0 < p → v / p < q → v < q * p
div_below v p q pos h = (div-lt_iff_lt-mul pos).0 h

pub below_div : (v p q : ℕ) → 0 < p → v < q * p → v / p < q
below_div v p q pos h = (div-lt_iff_lt-mul pos).1 h

-- ---- a digit
pub digit_range : (b : ℕ) → is_digit b ≡ true → (48 ≤ b) × (b ≤ 57)
digit_range b e = let h = both_true (leb 48 b) (leb b 57) e in (leb-true 48 b h.0, leb-true b 57 h.1)

range_digit : (b : ℕ) → 48 ≤ b → b ≤ 57 → is_digit b ≡ true
range_digit b l h = both (leb 48 b) (leb b 57) (le-leb 48 b l) (le-leb b 57 h)

pub mod_digit : (q : ℕ) → is_digit (48 + q % 10) ≡ true
mod_digit q = range_digit (48 + q % 10) (omega arith) (omega (arith, mod-lt q {m = 10} (lit≤ tt)))

-- ---- the last n digits of v, with zeros at the front
unfoldable pub digits_of : ℕ → ℕ → List ℕ
digits_of zero v = []
digits_of (suc n) v = (48 + v / 10 ^ n % 10) ∷ digits_of n v

pub digits_are : (n v : ℕ) → all_digits (digits_of n v) ≡ true
unfolding digits_of all_digits
digits_are zero v = refl
digits_are (suc n) v = both (is_digit (48 + v / 10 ^ n % 10)) (all_digits (digits_of n v)) (mod_digit (v / 10 ^ n)) (digits_are n v)

one_digit : (q r : ℕ) → r ≡ q / 10 → 10 * r + (48 + q % 10 - 48) ≡ q
one_digit q r e = omega arith

-- the digits that follow those before give the number back
pub digits_value : (n v : ℕ) → value_from (v / 10 ^ n) (digits_of n v) ≡ v
unfolding digits_of value_from
digits_value zero v = div-one v
digits_value (suc n) v = ap (λ (w : ℕ). value_from w (digits_of n v)) (one_digit (v / 10 ^ n) (v / 10 ^ suc n) (div_ten v n)) ∙ digits_value n v

-- ---- the value of digits
one_less : (w b q : ℕ) → 48 ≤ b → b ≤ 57 → q ≡ 10 * w + (b - 48) → q / 10 ≡ w
one_less w b q l h e = omega arith

this_digit : (w b q : ℕ) → 48 ≤ b → b ≤ 57 → q ≡ 10 * w + (b - 48) → 48 + q % 10 ≡ b
this_digit w b q l h e = omega arith

-- without the last digits it is what was there before them
pub value_over : (f : List ℕ) (w : ℕ) → all_digits f ≡ true → value_from w f / 10 ^ length f ≡ w
unfolding all_digits value_from
value_over [] w e = div-one w
value_over (b ∷ f) w e =
    let h = both_true (is_digit b) (all_digits f) e in
    let d = digit_range b h.0 in
    let v : ℕ = value_from (10 * w + (b - 48)) f in
    div_ten v (length f) ∙ one_less w b (v / 10 ^ length f) d.0 d.1 (value_over f (10 * w + (b - 48)) h.1)

-- its last digits are those that were there
pub value_digits : (f : List ℕ) (w : ℕ) → all_digits f ≡ true → digits_of (length f) (value_from w f) ≡ f
unfolding digits_of all_digits value_from
value_digits [] w e = refl
value_digits (b ∷ f) w e =
    let h = both_true (is_digit b) (all_digits f) e in
    let d = digit_range b h.0 in
    let v : ℕ = value_from (10 * w + (b - 48)) f in
    ap₂ {C = List ℕ} (λ (c : ℕ) (g : List ℕ). c ∷ g) (this_digit w b (v / 10 ^ length f) d.0 d.1 (value_over f (10 * w + (b - 48)) h.1))
    (value_digits f (10 * w + (b - 48)) h.1)
