-- What it is for a pattern b to be the nearest to the root of n: the root lies between b's two halfway points, and at one of them b is even.
-- The pattern 0 has no point below it, and the infinity's none above. 4 * n and the points' squares count 2 ^ -300.
use Rattle.std.specs.Prelude.{◌≡◌, ℕ, suc, ◌*◌, ◌%◌, ◌<◌, ◌≤◌, ◌⊎◌}
use Rattle.hypot.specs.Hypot.{halfway, square}

abbrev pub After : ℕ → ℕ → ℕ → Type 0
After n h b = (square h < 4 * n) ⊎ ((square h ≡ 4 * n) × (b % 2 ≡ 0))

abbrev pub Before : ℕ → ℕ → ℕ → Type 0
Before n h b = (4 * n < square h) ⊎ ((4 * n ≡ square h) × (b % 2 ≡ 0))

pub record Nearest (n b : ℕ) : Type 0 where
  pub range : b ≤ 0x7f80_0000
  pub lower : (c : ℕ) → b ≡ suc c → After n (halfway c) b
  pub upper : b < 0x7f80_0000 → Before n (halfway b) b
