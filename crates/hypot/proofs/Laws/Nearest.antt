-- What `hypot` of two finite values is: the nearest value to the exact root, by the squares of the halfway points, and no other value is. Assumes nothing.
use Rattle.std.proofs.Common.{◌≡◌, ℕ, ◌+◌, ◌<◌, ◌≤◌, Bool, not, T, ℤ, sym, refl, ap, subst, arith}
use lib.Ieee.{fin, binary32, to_bits, of_bits}
use lib.Ieee.Bits.{to_bits-of_bits, nan_bits_is}
use Rattle.hypot.specs.Hypot.{nearest_root, square, magnitude, hypot}
use Rattle.hypot.specs.Nearest.{Nearest}
use Rattle.hypot.proofs.Root.Values.{root_no_nan, root_le}
use Rattle.hypot.proofs.Root.Nearest.{nearest_law, nearest_unique}

module _ (s t : Bool) (m k : ℕ) (e d : ℤ) where
  -- the pattern of the result is a nearest one
  pub hypot_nearest : Nearest (square (magnitude m e) + square (magnitude k d)) (to_bits binary32 (hypot (fin s m e) (fin t k d)))
  unfolding hypot
  hypot_nearest =
      let n = square (magnitude m e) + square (magnitude k d) in
      subst (λ (b : ℕ). Nearest n b)
      (sym (to_bits-of_bits binary32 (nearest_root n) (below (nearest_root n) (root_le n)) (subst (λ (z : Bool). T (not z)) (nan_bits_is binary32 (nearest_root n)) (root_no_nan n (nearest_root n) refl))))
      (nearest_law n)
    where
      below : (r : ℕ) → r ≤ 0x7f80_0000 → r < 4294967296
      below r h = omega arith

  -- a nearest pattern is the result's
  pub hypot_only : (b : ℕ) → Nearest (square (magnitude m e) + square (magnitude k d)) b → of_bits binary32 b ≡ hypot (fin s m e) (fin t k d)
  unfolding hypot
  hypot_only b h = ap (of_bits binary32) (nearest_unique (square (magnitude m e) + square (magnitude k d)) b h)
