-- What the parts of the code tell each other. Definitions only: nothing here stands in the contract of `hypot`.
use Rattle.std.specs.Prelude.{◌≡◌, ℕ, ◌+◌, ◌*◌, ◌/◌, ◌%◌, ◌^◌, ◌<◌, ◌≤◌, min, ◌⊎◌, ◌≢◌}

-- x is 0 where u is s and v is c, and 1 where either differs
abbrev pub Flag : ℕ → ℕ → ℕ → ℕ → ℕ → Type 0
Flag x u s v c = ((x ≡ 0) × (u ≡ s) × (v ≡ c)) ⊎ ((x ≡ 1) × ((u ≢ s) ⊎ (v ≢ c)))

-- t is the whole part of the root of 4 * (a * a + b * b / 2 ^ k), and x says whether anything is left over
pub record Rooted (a b k t x : ℕ) : Type 0 where
  pub small : t < 67108864
  pub lower : t * t ≤ 4 * a * a + 4 * b * b / 2 ^ k
  pub upper : 4 * a * a + 4 * b * b / 2 ^ k < (t + 1) * (t + 1)
  pub flag : Flag x (t * t) (4 * a * a + 4 * b * b / 2 ^ k) (4 * b * b / 2 ^ k * 2 ^ k) (4 * b * b)

-- The pattern for t and x, with e fields: t without its last digit, rounded by that and x to the even one. Of a t of 26 digits two digits go, and there is one field more.
abbrev pub out_4 : ℕ → ℕ → ℕ → ℕ
out_4 e t x = e * 8388608 + (2 * t + x + 1 + (2 * t + x) / 4 % 2) / 4

abbrev pub out_8 : ℕ → ℕ → ℕ → ℕ
out_8 e t x = e * 8388608 + 8388608 + (2 * t + x + 3 + (2 * t + x) / 8 % 2) / 8

pub record Packed (e t x r : ℕ) : Type 0 where
  pub short : t < 33554432 → r ≡ min (out_4 e t x) 0x7f80_0000
  pub long : 33554432 ≤ t → r ≡ min (out_8 e t x) 0x7f80_0000
