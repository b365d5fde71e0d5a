-- A fact about `compare a b` by the three ways in which a and b compare.
use mathlib.Core.Path.{◌≡◌, refl, subst}
use mathlib.Core.Bool.{not}
use Prim.Native.Nat.{ℕ, ◌≤◌, ◌<◌, compare, Ordering}
use native.Mathlib.Omega.{arith}
use lib.Arith.{lt_of_le-ne}
use lib.Dec.{T, is_le, compare_is_eq, eqb, leb→le, nleb→lt, eqb→eq, eqb_refl}

pub by_order : (P : Ordering → Type 0) (a b : ℕ) → (a < b → P Ordering.lt) → (a ≡ b → P Ordering.eq) → (b < a → P Ordering.gt) → P (compare a b)
by_order P a b x y z = go (compare a b) (leb→le a b) (nleb→lt a b) (eqb→eq a b) (λ (e : a ≡ b). subst (λ (x : ℕ). T (eqb a x)) e (eqb_refl a))
  where
    go : (o : Ordering) → (T (is_le o) → a ≤ b) → (T (not (is_le o)) → b < a) → (T (compare_is_eq o) → a ≡ b) → (a ≡ b → T (compare_is_eq o)) → P o
    go Ordering.lt h k e n = x (lt_of_le-ne (h tt) n)
    go Ordering.eq h k e n = y (e tt)
    go Ordering.gt h k e n = z (k tt)

pub is_lt : (a b : ℕ) → a < b → compare a b ≡ Ordering.lt
is_lt a b h = by_order (λ o. o ≡ Ordering.lt) a b (λ l. refl) (λ e. absurd (omega arith)) (λ l. absurd (omega arith))

pub is_eq : (a b : ℕ) → a ≡ b → compare a b ≡ Ordering.eq
is_eq a b h = by_order (λ o. o ≡ Ordering.eq) a b (λ l. absurd (omega arith)) (λ e. refl) (λ l. absurd (omega arith))

pub is_gt : (a b : ℕ) → b ≤ a → (a ≡ b → ⊥) → compare a b ≡ Ordering.gt
is_gt a b h n = by_order (λ o. o ≡ Ordering.gt) a b (λ l. absurd (omega arith)) (λ e. absurd (n e)) (λ l. refl)
