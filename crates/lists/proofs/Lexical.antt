-- Three comparisons one after the other make a strict total order if the last of them does; `N` is what the last of them says. Assumes nothing.
use mathlib.Core.Path.{◌≡◌, sym, ap, ◌∙◌}
use mathlib.Core.Bool.{true, false≢true}
use mathlib.Core.Logic.{◌⊎◌, inl, inr}
use Prim.Native.Nat.{ℕ, ◌<◌, compare, Ordering}
use native.Mathlib.Omega.{arith}
use Rattle.lists.proofs.Comparing.{by_order, is_lt, is_eq}
use Rattle.lists.specs.Ranking.{and_then, is_less}

-- one comes before another by the first comparison, by the second, or by the last
pub data Sooner (u v x y : ℕ) (N : Type 0) : Type 0 where
  by_first : u < v → Sooner u v x y N
  by_second : u ≡ v → x < y → Sooner u v x y N
  by_last : u ≡ v → x ≡ y → N → Sooner u v x y N

pub sooner : (u v x y m n : ℕ) → is_less (and_then (compare u v) (and_then (compare x y) (compare m n))) ≡ true → Sooner u v x y (m < n)
sooner u v x y m n =
    by_order (λ o. is_less (and_then o (and_then (compare x y) (compare m n))) ≡ true → Sooner u v x y (m < n)) u v (λ h t. by_first h)
    (λ e.
    by_order (λ o. is_less (and_then o (compare m n)) ≡ true → Sooner u v x y (m < n)) x y (λ h t. by_second e h)
    (λ d. by_order (λ o. is_less o ≡ true → Sooner u v x y (m < n)) m n (λ h t. by_last e d h) (λ h t. absurd (false≢true t)) (λ h t. absurd (false≢true t)))
    (λ h t. absurd (false≢true t)))
    (λ h t. absurd (false≢true t))

pub is_sooner : (u v x y m n : ℕ) → Sooner u v x y (m < n) → is_less (and_then (compare u v) (and_then (compare x y) (compare m n))) ≡ true
is_sooner u v x y m n (by_first h) = ap (λ (o : Ordering). is_less (and_then o (and_then (compare x y) (compare m n)))) (is_lt u v h)
is_sooner u v x y m n (by_second e h) =
    ap (λ (o : Ordering). is_less (and_then o (and_then (compare x y) (compare m n)))) (is_eq u v e) ∙ ap (λ (o : Ordering). is_less (and_then o (compare m n))) (is_lt x y h)
is_sooner u v x y m n (by_last e d h) =
    ap (λ (o : Ordering). is_less (and_then o (and_then (compare x y) (compare m n)))) (is_eq u v e)
    ∙ ap (λ (o : Ordering). is_less (and_then o (compare m n))) (is_eq x y d)
    ∙ ap is_less (is_lt m n h)

-- nobody comes before itself
pub not_itself : (u x : ℕ) {N : Type 0} → (N → ⊥) → Sooner u u x x N → ⊥
not_itself u x no_last (by_first h) = omega arith
not_itself u x no_last (by_second e h) = omega arith
not_itself u x no_last (by_last e d h) = no_last h

pub through : (u v w x y z : ℕ) {L M N : Type 0} → (L → M → N) → Sooner u v x y L → Sooner v w y z M → Sooner u w x z N
through u v w x y z f (by_first h) (by_first k) = by_first (omega arith)
through u v w x y z f (by_first h) (by_second d k) = by_first (omega arith)
through u v w x y z f (by_first h) (by_last d g k) = by_first (omega arith)
through u v w x y z f (by_second e h) (by_first k) = by_first (omega arith)
through u v w x y z f (by_second e h) (by_second d k) = by_second (omega arith) (omega arith)
through u v w x y z f (by_second e h) (by_last d g k) = by_second (omega arith) (omega arith)
through u v w x y z f (by_last e c h) (by_first k) = by_first (omega arith)
through u v w x y z f (by_last e c h) (by_second d k) = by_second (omega arith) (omega arith)
through u v w x y z f (by_last e c h) (by_last d g k) = by_last (omega arith) (omega arith) (f h k)

-- of two different ones, one comes before the other
pub one_of_two : (u v x y m n : ℕ) → (m ≡ n → ⊥) → Sooner u v x y (m < n) ⊎ Sooner v u y x (n < m)
one_of_two u v x y m n differ =
    by_order (λ o. Sooner u v x y (m < n) ⊎ Sooner v u y x (n < m)) u v (λ h. inl (by_first h))
    (λ e.
    by_order (λ o. Sooner u v x y (m < n) ⊎ Sooner v u y x (n < m)) x y (λ h. inl (by_second e h))
    (λ d. by_order (λ o. Sooner u v x y (m < n) ⊎ Sooner v u y x (n < m)) m n (λ h. inl (by_last e d h)) (λ h. absurd (differ h)) (λ h. inr (by_last (sym e) (sym d) h)))
    (λ h. inr (by_second (sym e) h)))
    (λ h. inr (by_first h))
