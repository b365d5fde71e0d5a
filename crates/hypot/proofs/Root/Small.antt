-- Bounds on squares.
use Rattle.std.proofs.Common.{◌≡◌, ℕ, ◌+◌, ◌*◌, ◌/◌, ◌^◌, ◌<◌, ◌≤◌, refl, mul-le-mul, lt_of_not-le, div-le_self, arith, Fits-le, w64, Fits}

-- the square of a number up to 2 ^ 26
pub square_fits : (t : ℕ) → t ≤ 67108864 → Fits w64 (t * t)
square_fits t h = Fits-le (mul-le-mul h h) (record { fits = omega arith })

-- a number whose square is below 2 ^ 52 is below 2 ^ 26
pub small : (t s : ℕ) → t * t ≤ s → s < 2 ^ 52 → t < 67108864
small t s h l = lt_of_not-le (λ (g : 67108864 ≤ t). clash (67108864 * 67108864) (t * t) s refl (mul-le-mul g g) h l)
  where
    clash : (a b s : ℕ) → a ≡ 4503599627370496 → a ≤ b → b ≤ s → s < 2 ^ 52 → ⊥
    clash a b s e p q r = omega arith

-- four times the square of a significand
pub four_square : (b : ℕ) → b < 2 ^ 24 → 4 * b * b ≤ 1125899906842624
four_square b h = mul-le-mul {n₁ = 4 * b} {m₁ = b} {n₂ = 67108864} {m₂ = 16777216} (omega arith) (omega arith)

pub sum_small : (a b k : ℕ) → a < 2 ^ 24 → b < 2 ^ 24 → 4 * a * a + 4 * b * b / 2 ^ k < 2 ^ 52
sum_small a b k h l = join (4 * a * a) (4 * b * b) (4 * b * b / 2 ^ k) (four_square a h) (four_square b l) (div-le_self (4 * b * b) (2 ^ k))
  where
    join : (x y z : ℕ) → x ≤ 1125899906842624 → y ≤ 1125899906842624 → z ≤ y → x + z < 2 ^ 52
    join x y z p q r = omega arith

pub sum_smaller : (a b k : ℕ) → a < 2 ^ 24 → b < 2 ^ 24 → 4 * a * a + 4 * b * b / 2 ^ k ≤ 2251799813685248
sum_smaller a b k h l = join (4 * a * a) (4 * b * b) (4 * b * b / 2 ^ k) (four_square a h) (four_square b l) (div-le_self (4 * b * b) (2 ^ k))
  where
    join : (x y z : ℕ) → x ≤ 1125899906842624 → y ≤ 1125899906842624 → z ≤ y → x + z ≤ 2251799813685248
    join x y z p q r = omega arith

-- the root of 2 ^ 51 is below 50000000
pub smaller : (t s : ℕ) → t * t ≤ s → s ≤ 2251799813685248 → t < 50000000
smaller t s h l = lt_of_not-le (λ (g : 50000000 ≤ t). clash (50000000 * 50000000) (t * t) s refl (mul-le-mul g g) h l)
  where
    clash : (a b s : ℕ) → a ≡ 2500000000000000 → a ≤ b → b ≤ s → s ≤ 2251799813685248 → ⊥
    clash a b s e p q r = omega arith
