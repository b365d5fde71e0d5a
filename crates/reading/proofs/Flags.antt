-- Laws of `flagged`: which flags a number has after one of them is set. Assumes nothing.
use mathlib.Core.Path.{◌≡◌, refl, sym, ap, ◌∙◌}
use mathlib.Core.Bool.{Bool, true, false, ◌||◌}
use Prim.Native.Nat.{ℕ, zero, suc, ◌+◌, ◌-◌, ◌/◌, ◌%◌, ◌^◌, ◌<◌, Ordering}
use native.Mathlib.Nat.{mod-lt, zero-lt-suc, one-mul, div-eq_of_lt}
use native.Mathlib.Omega.{arith}
use lib.Bits.{bit_or, or_shr, or_mod, shifted_even}
use lib.Dec.{eqb, compare_is_eq}
use lib.Pow.{pow-add, pow-lt, pow_pos, shl-shr}
use Rattle.lists.proofs.Comparing.{by_order}
use Rattle.reading.specs.Walk.{flagged}

-- ---- a single flag
pub flagged_one : (n m : ℕ) → flagged (2 ^ n) m ≡ eqb m n
flagged_one n m = by_order (λ (o : Ordering). flagged (2 ^ n) m ≡ compare_is_eq o) m n below here above
  where
    below : m < n → flagged (2 ^ n) m ≡ false
    below h =
        let d : ℕ = n - suc m in
        let far : n ≡ suc d + m = omega arith in
        ap (λ (x : ℕ). flagged (2 ^ x) m) far
        ∙ ap (λ (x : ℕ). flagged x m) (pow-add 2 (suc d) m)
        ∙ ap (λ (x : ℕ). eqb (x % 2) 1) (shl-shr (2 ^ suc d) m ∙ sym (one-mul (2 ^ suc d)))
        ∙ ap (λ (x : ℕ). eqb x 1) (shifted_even 1 d)

    here : m ≡ n → flagged (2 ^ n) m ≡ true
    here e =
        ap (λ (x : ℕ). flagged (2 ^ n) x) e
        ∙ ap (λ (x : ℕ). flagged x n) (sym (one-mul (2 ^ n)))
        ∙ ap (λ (x : ℕ). eqb (x % 2) 1) (shl-shr 1 n)

    above : n < m → flagged (2 ^ n) m ≡ false
    above h = ap (λ (x : ℕ). eqb (x % 2) 1) (div-eq_of_lt (pow-lt h))

-- ---- one more flag
bit_or_holds : (x y : ℕ) → x < 2 → y < 2 → eqb (bit_or x y) 1 ≡ (eqb x 1 || eqb y 1)
bit_or_holds zero y h g = refl
bit_or_holds (suc zero) zero h g = refl
bit_or_holds (suc zero) (suc zero) h g = refl
bit_or_holds (suc zero) (suc (suc y)) h g = absurd (omega arith)
bit_or_holds (suc (suc x)) y h g = absurd (omega arith)

pub flagged_more : (seen n m : ℕ) → flagged (bit_or seen (2 ^ n)) m ≡ (flagged seen m || eqb m n)
flagged_more seen n m =
    ap (λ (x : ℕ). eqb (x % 2) 1) (or_shr seen (2 ^ n) m)
    ∙ ap (λ (x : ℕ). eqb x 1) (or_mod (seen / 2 ^ m) (2 ^ n / 2 ^ m) 1)
    ∙ bit_or_holds (seen / 2 ^ m % 2) (2 ^ n / 2 ^ m % 2) (mod-lt (seen / 2 ^ m) (zero-lt-suc 1)) (mod-lt (2 ^ n / 2 ^ m) (zero-lt-suc 1))
    ∙ ap (λ (b : Bool). flagged seen m || b) (flagged_one n m)

-- ---- none
pub flagged_none : (m : ℕ) → flagged 0 m ≡ false
flagged_none m = ap (λ (x : ℕ). eqb (x % 2) 1) (div-eq_of_lt (pow_pos m))
