-- A number in so many columns, its digits without blanks where they fill the columns. Assumes nothing.
use mathlib.Core.Path.{◌≡◌, refl, ap₂}
use mathlib.Core.Bool.{Bool, true, false, ◌&&◌, cond}
use mathlib.Core.List.{List, [], ◌∷◌}
use Prim.Native.Nat.{ℕ, zero, suc, ◌+◌, ◌/◌, ◌%◌, ◌^◌, ◌≤◌}
use native.Mathlib.Omega.{arith}
use borrow.Author.Tests.{le-ltb}
use lib.Dec.{ltb}
use Rattle.lines.specs.Line.{column_byte, columns_of}
use Rattle.fields.proofs.DigitLaws.{ten_pos, digits_of}

-- whether there are columns right of this one
abbrev pub more : ℕ → Bool
more zero = false
more (suc n) = true

-- v in n columns
unfoldable pub places_of : ℕ → ℕ → List ℕ
places_of zero v = []
places_of (suc n) v = cond (ltb v (10 ^ n) && more n) 32 (48 + v / 10 ^ n % 10) ∷ places_of n v

pub columns_places : (v : ℕ) → columns_of v ≡ places_of 11 v
unfolding columns_of column_byte places_of
columns_places v = refl

pub last_place : (v : ℕ) → places_of 1 v ≡ digits_of 1 v
unfolding places_of digits_of
last_place v = go (ltb v (10 ^ 0))
  where
    go : (b : Bool) → cond (b && false) 32 (48 + v / 10 ^ 0 % 10) ∷ [] ≡ (48 + v / 10 ^ 0 % 10) ∷ []
    go true = refl
    go false = refl

-- with no blank
pub places_digits : (n v : ℕ) → 10 ^ n ≤ v → places_of (suc n) v ≡ digits_of (suc n) v
unfolding places_of digits_of
places_digits zero v h = last_place v
places_digits (suc n) v h =
    ap₂ {C = List ℕ} (λ (b : Bool) (f : List ℕ). cond (b && true) 32 (48 + v / 10 ^ suc n % 10) ∷ f) (le-ltb v (10 ^ suc n) h) (places_digits n v (omega (arith, ten_pos n)))
