use Rattle.std.proofs.Common.{◌≡◌, ℕ, ◌%◌, ◌⊎◌, inl, inr, ⊎_elim, arith}
use Rattle.std.proofs.Math.Nat.{eq-zero-or-pos}
use lib.Ieee.{of_bits, nan_bits, add, sub, mul, neg, eq, ne}
use Rattle.mode.proofs.is_ieee_mode.Goals as goal

even_or_odd : (n : ℕ) → (n % 2 ≡ 0) ⊎ (n % 2 ≡ 1)
even_or_odd n = ⊎_elim inl (λ h. inr (omega arith)) (eq-zero-or-pos (n % 2))

pub float_from_bits-one : goal.float_from_bits-one
unfolding nan_bits
float_from_bits-one c = ⊎_elim (λ h. rw h tt) (λ h. rw h tt) (even_or_odd c.args.seed)

pub returns : goal.returns
unfolding of_bits add sub mul neg eq ne
returns c = ⊎_elim (λ h. rw h) (λ h. rw h) (even_or_odd c.args.seed)
