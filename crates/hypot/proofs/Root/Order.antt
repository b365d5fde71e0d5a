-- Which of two fractions is larger, from which of their rounded values is: rounding keeps the order.
use Rattle.std.proofs.Common.{◌≡◌, ℕ, ◌+◌, ◌*◌, ◌<◌, ◌≤◌, Bool, true, false, ◌&&◌, ◌||◌, T, eqb, ltb, ◌⊎◌, inl, inr, lt_of_not-le, arith, eqb→eq, ltb→lt}
use lib.Ieee.{Float, nan, inf, fin, Format, up, down, below, level, round, lt, le}
use lib.Ieee.Fits.{and_l, and_r}
use lib.Ieee.Order.{round_mono}
use Rattle.lists.proofs.Bools.{holds}

either : (a b : Bool) → T (a || b) → T a ⊎ T b
either true b t = inl tt
either false b t = inr t

-- two finite values: a below b is neither above b nor level with it
apart : (s : Bool) (a : ℕ) (t : Bool) (b : ℕ) → T (below s a t b) → T (below t b s a || level t b s a) → ⊥
apart false a false b h k = elim (either (ltb b a) (eqb b a && true) k) [ inl l ↦ two (ltb→lt a b h) (ltb→lt b a l) | inr l ↦ same (ltb→lt a b h) (eqb→eq b a (and_l (eqb b a) true l)) ]
  where
    two : a < b → b < a → ⊥
    two p q = omega arith

    same : a < b → b ≡ a → ⊥
    same p q = omega arith
apart false a true b h k = h
apart true a false b h k = none (ltb→lt 0 (a + b) h) (eqb→eq b a (and_l (eqb b a) (eqb b 0) k)) (eqb→eq b 0 (and_r (eqb b a) (eqb b 0) k))
  where
    none : 0 < a + b → b ≡ a → b ≡ 0 → ⊥
    none p q r = omega arith
apart true a true b h k = elim (either (ltb a b) (eqb b a && true) k) [ inl l ↦ two (ltb→lt b a h) (ltb→lt a b l) | inr l ↦ same (ltb→lt b a h) (eqb→eq b a (and_l (eqb b a) true l)) ]
  where
    two : b < a → a < b → ⊥
    two p q = omega arith

    same : b < a → b ≡ a → ⊥
    same p q = omega arith

pub lt_not_le : (x y : Float) → T (lt x y) → T (le y x) → ⊥
unfolding lt le
lt_not_le nan y h k = h
lt_not_le (inf s) nan h k = h
lt_not_le (inf true) (inf true) h k = h
lt_not_le (inf true) (inf false) h k = k
lt_not_le (inf false) (inf t) h k = h
lt_not_le (inf true) (fin t n d) h k = k
lt_not_le (inf false) (fin t n d) h k = h
lt_not_le (fin s m e) nan h k = h
lt_not_le (fin s m e) (inf true) h k = h
lt_not_le (fin s m e) (inf false) h k = k
lt_not_le (fin s m e) (fin t n d) h k = apart s (m * up e * down d) t (n * up d * down e) h k

pub round_lt : (f : Format) (a b c d : ℕ) → 0 < b → 0 < d → lt (round f false a b) (round f false c d) ≡ true → a * d < c * b
round_lt f a b c d B D h = lt_of_not-le (λ (g : c * b ≤ a * d). lt_not_le (round f false a b) (round f false c d) (holds (lt (round f false a b) (round f false c d)) h) (round_mono f c d a b D B g))
