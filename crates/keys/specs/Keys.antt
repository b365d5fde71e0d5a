-- Players as numbers in an order, as the code has them: of two keys the lower one comes first. Definitions only.
use Rattle.std.specs.Prelude.{◌≡◌, Bool, ◌&&◌, cond, ◌⊎◌, ℕ, zero, suc, ◌+◌, ◌≤◌, ◌<◌, leb, ltb}
use Rattle.lists.specs.Counting.{count_to}

-- above the key of every player who has one
abbrev pub no_key : ℕ
no_key = 0x40_0000_0000

-- the lower of two keys, where the first is not below `from`; else the second
abbrev pub lower_from : ℕ → ℕ → ℕ → ℕ
lower_from from key best = cond (leb from key && ltb key best) key best

-- the least of the first n keys that are not below `from`, and none where there is none
unfoldable pub least_from : ℕ → (ℕ → ℕ) → ℕ → ℕ
least_from zero keys from = no_key
least_from (suc n) keys from = lower_from from (keys 0) (least_from n (λ k. keys (suc k)) from)

-- what that is: r is below none of these keys, and is one of them or none
pub record Least (n : ℕ) (keys : ℕ → ℕ) (from r : ℕ) : Type 0 where
  pub capped : r ≤ no_key
  pub below : (k : ℕ) → k < n → from ≤ keys k → r ≤ keys k
  pub found : (r ≡ no_key) ⊎ ((k : ℕ) × (k < n) × (keys k ≡ r) × (from ≤ r))

-- the player at the place i has a key
abbrev pub has_key : (ℕ → ℕ) → ℕ → Bool
has_key keys i = ltb (keys i) no_key

-- i comes before j
abbrev pub lower_key : (ℕ → ℕ) → ℕ → ℕ → Bool
lower_key keys i j = ltb (keys i) (keys j)

-- how many keys are below x
unfoldable pub keys_below : (ℕ → ℕ) → ℕ → ℕ
unfolding count_to
keys_below keys x = count_to 20 (λ i. ltb (keys i) x)

-- the player's number can be read off the key
abbrev pub TellsNumber : (ℕ → ℕ) → (ℕ → ℕ) → Type 0
TellsNumber number keys = (i : ℕ) → i < 20 → keys i < no_key → number (keys i) ≡ i + 1
