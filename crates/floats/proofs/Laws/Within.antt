-- Values from -64 to 64. Assumes nothing.
use mathlib.Core.Path.{◌≡◌, refl, sym, ap, ◌∙◌, subst}
use mathlib.Core.Bool.{Bool, true, false, cond}
use lib.Ieee.{Float, binary32, neg, lt, le}
use Rattle.floats.specs.Arithmetic.{sixty_four}
use Rattle.floats.specs.Leaves.{clamp}
use Rattle.floats.specs.Values.{Number, Finite, Within}
use Rattle.floats.proofs.Laws.Constants.{sixty_four_finite, sixty_four_number}
use Rattle.floats.proofs.Laws.Order.{nlt→≤, ≤→le, le_trans_f, neg_number}
use Rattle.floats.proofs.Laws.Rounding.{neg_finite, finite_between}
use Rattle.floats.proofs.Laws.Signs.{neg_neg, le_neg}

pub finite_within : (v : Float) → Within v → Finite binary32 v
finite_within v w = finite_between binary32 (neg sixty_four) v sixty_four (neg_finite binary32 sixty_four sixty_four_finite) w.number.fit sixty_four_finite w.lowest w.highest

pub within_neg : (v : Float) → Within v → Within (neg v)
within_neg v w = record {
  number = neg_number binary32 v w.number;
  lowest = le_neg v sixty_four ∙ w.highest;
  highest = ap (le (neg v)) (sym (neg_neg sixty_four)) ∙ le_neg (neg sixty_four) v ∙ w.lowest;
}

-- a value that was clamped to bounds within 64 is within 64
pub clamp_within : (x low high : Float) → Number binary32 x → Within low → Within high → le low high ≡ true → Within (clamp x low high)
unfolding clamp
clamp_within x low high p q r o = subst (λ (c : Bool). Within (cond c (cond (lt x low) low (cond (lt high x) high x)) x)) (sym o) (go (lt x low) (lt high x) refl refl)
  where
    go : (a b : Bool) → lt x low ≡ a → lt high x ≡ b → Within (cond a low (cond b high x))
    go true b u v = q
    go false true u v = r
    go false false u v = record {
      number = p;
      lowest = le_trans_f binary32 (neg sixty_four) low x (neg_number binary32 sixty_four sixty_four_number) q.number p q.lowest (≤→le binary32 low x q.number p (nlt→≤ binary32 x low p q.number u));
      highest = le_trans_f binary32 x high sixty_four p r.number sixty_four_number (≤→le binary32 x high p r.number (nlt→≤ binary32 high x r.number p v)) r.highest;
    }
