-- The fewest digits that hold a number are its decimal digits without leading zeros. Assumes nothing.
use mathlib.Core.Path.{◌≡◌, refl, sym, ap, ap₂, subst, ◌∙◌}
use mathlib.Core.Bool.{Bool, true, false}
use mathlib.Core.List.{List, [], ◌∷◌, ◌++◌}
use Prim.Native.Nat.{ℕ, zero, suc, ◌+◌, ◌*◌, ◌/◌, ◌%◌, ◌^◌, ◌-◌, ◌≤◌, ◌<◌}
use native.Mathlib.Nat.{mod-lt, pow-suc, pow-le-pow_right, one-le-pow, div-lt_iff_lt-mul, le-div_iff_mul-le}
use native.Mathlib.Omega.{arith}
use borrow.Author.Tests.{lt-ltb, le-ltb, leb-true, leb-false}
use lib.Dec.{leb, ltb, lit<}
use lib.ListN.{length, length-append}
use Rattle.io.specs.Digits.{hex_digit_ascii, last_digits, IsDigitCount}
use Rattle.text.specs.Decimal.{grown, decimal_from, decimal_of}

-- a digit below 10
glyph_of : (n : ℕ) → hex_digit_ascii (n % 10) ≡ 48 + n % 10
glyph_of n = simp (lt-ltb (n % 10) 10 (mod-lt n (lit< tt)))

-- the least size of a number that takes two digits or more
large : (n k : ℕ) → IsDigitCount 10 1 n (suc (suc k)) → 10 ^ k * 10 ≤ n
large n k h = let more : suc (suc k) - 1 ≡ suc k = omega arith in subst (λ (p : ℕ). p ≤ n) (ap (λ (j : ℕ). 10 ^ j) more ∙ pow-suc 10 k) (h.2 (omega arith))

-- such a number without its last digit
fewest_less : (n k : ℕ) → IsDigitCount 10 1 n (suc (suc k)) → IsDigitCount 10 1 (n / 10) (suc k)
fewest_less n k h =
    let less : suc k - 1 ≡ k = omega arith in (
      omega arith,
      (div-lt_iff_lt-mul (lit< tt)).1 (subst (λ (p : ℕ). n < p) (pow-suc 10 (suc k)) h.1),
      (λ (m : 1 < suc k). subst (λ (j : ℕ). 10 ^ j ≤ n / 10) (sym less) ((le-div_iff_mul-le (lit< tt)).1 (large n k h))),
    )

-- where f steps are no fewer than the digits
decimal_digits : (f k n : ℕ) → k ≤ f → IsDigitCount 10 1 n k → last_digits 10 k n ≡ decimal_from f n
unfolding decimal_from
decimal_digits f zero n l h = absurd (omega (arith, h.0))
decimal_digits zero (suc k) n l h = absurd (omega arith)
decimal_digits (suc f) (suc zero) n l h = simp (glyph_of n, lt-ltb n 10 h.1)
decimal_digits (suc f) (suc (suc k)) n l h =
    let ten : 10 ≤ n = omega (arith, large n k h, one-le-pow k 10 (lit< tt)) in
    ap₂ (λ (t : List ℕ) (d : ℕ). t ++ (d ∷ [])) (decimal_digits f (suc k) (n / 10) (omega arith) (fewest_less n k h)) (glyph_of n)
    ∙ ap (λ (b : Bool). grown b (decimal_from f (n / 10)) (48 + n % 10)) (sym (le-ltb n 10 ten))

-- a number of 64 bits has 20 digits at most
pub fewest_few : (n k : ℕ) → n < 2 ^ 64 → IsDigitCount 10 1 n k → k ≤ 20
fewest_few n k low h = go (leb k 20) refl
  where
    go : (b : Bool) → leb k 20 ≡ b → k ≤ 20
    go true e = leb-true k 20 e
    go false e =
        let more : 20 ≤ k - 1 = omega (arith, leb-false k 20 e) in
        let high : 10 ^ 20 ≤ 10 ^ (k - 1) = pow-le-pow_right {n = 10} (lit< tt) more in
        absurd (omega (arith, h.2 (omega arith)))

-- the digits of such a number
pub decimal_told : (n k : ℕ) → n < 2 ^ 64 → IsDigitCount 10 1 n k → last_digits 10 k n ≡ decimal_of n
decimal_told n k low h = decimal_digits 20 k n (fewest_few n k low h) h

-- ---- the greatest lengths
grown_length : (b : Bool) (before : List ℕ) (digit : ℕ) → length (grown b before digit) ≤ length before + 1
grown_length true before digit = omega arith
grown_length false before digit = omega (arith, length-append before (digit ∷ []))

-- by the steps
pub decimal_most : (f n : ℕ) → length (decimal_from f n) ≤ f
unfolding decimal_from
decimal_most zero n = omega arith
decimal_most (suc f) n = omega (arith, decimal_most f (n / 10), grown_length (ltb n 10) (decimal_from f (n / 10)) (48 + n % 10))

-- by the size
decimal_few : (f k n : ℕ) → n < 10 ^ suc k → length (decimal_from f n) ≤ suc k
unfolding decimal_from
decimal_few zero k n h = omega arith
decimal_few (suc f) zero n h = let one : ltb n 10 ≡ true = lt-ltb n 10 h in simp one (omega arith)
decimal_few (suc f) (suc k) n h =
    let less : n < 10 ^ suc k * 10 = omega (arith, pow-suc 10 (suc k)) in
    omega (arith, decimal_few f k (n / 10) ((div-lt_iff_lt-mul (lit< tt)).1 less), grown_length (ltb n 10) (decimal_from f (n / 10)) (48 + n % 10))

-- a number of 32 bits
pub number_few : (n : ℕ) → n < 2 ^ 32 → length (decimal_of n) ≤ 10
number_few n h = decimal_few 20 9 n (omega arith)
