-- What `chosen` takes is what is meant: by induction on the list, the greatest so far standing at its head. Assumes nothing.
use mathlib.Core.Path.{◌≡◌, refl, subst}
use mathlib.Core.Bool.{Bool, true, false, cond, true≢false, false≢true}
use mathlib.Core.List.{List, [], ◌∷◌}
use Prim.Native.Nat.{ℕ, zero, suc, ◌≤◌, ◌<◌, compare}
use native.Mathlib.Omega.{arith}
use lib.ListN.{length}
use lib.Ieee.{Float, binary32, le, to_bits}
use Rattle.lists.proofs.Comparing.{by_order, is_lt}
use Rattle.floats.specs.Leaves.{total_key, total_order}
use Rattle.penalty.specs.Penalty.{Found, none, found, not_below, if_enough, first_reaching, last_greatest, or_else, chosen}
use Rattle.penalty.specs.Meant.{candidate, IsAt, FirstReaching, NoneReaches, LastGreatest, Chosen, by_distance, by_clearance}

-- ---- the total order as an order of numbers
not_below_holds : (a b : ℕ) → not_below (compare a b) ≡ true → b ≤ a
not_below_holds a b = by_order (λ o. not_below o ≡ true → b ≤ a) a b (λ l t. absurd (false≢true t)) (λ e t. omega arith) (λ l t. omega arith)

is_not_below : (a b : ℕ) → b ≤ a → not_below (compare a b) ≡ true
is_not_below a b h = by_order (λ o. not_below o ≡ true) a b (λ l. absurd (omega arith)) (λ e. refl) (λ l. refl)

below : (a b : ℕ) → not_below (compare a b) ≡ false → a < b
below a b = by_order (λ o. not_below o ≡ false → a < b) a b (λ l t. l) (λ e t. absurd (true≢false t)) (λ l t. absurd (true≢false t))

-- ---- the last of those with greatest clearance
module _ (clear : Float → Float) where
  key : Float → ℕ
  key x = total_key (to_bits binary32 (clear x))

  -- the same over the keys
  record Greatest (l : List Float) (x : Float) : Type 0 where
    i : ℕ
    at : IsAt l i x
    greatest : (j : ℕ) → j < length l → key (candidate l j) ≤ key x
    last : (j : ℕ) → i < j → j < length l → key (candidate l j) < key x

  -- the later of two at the head is not below the first
  later : (x y w : Float) (ys : List Float) → key x ≤ key y → Greatest (y ∷ ys) w → Greatest (x ∷ y ∷ ys) w
  later x y w ys h g = record {
    i = suc g.i;
    at = record { inside = omega (arith, g.at.inside); there = g.at.there };
    greatest = most;
    last = after;
  }
    where
      most : (j : ℕ) → j < suc (suc (length ys)) → key (candidate (x ∷ y ∷ ys) j) ≤ key w
      most zero l = omega (arith, h, g.greatest 0 (omega arith))
      most (suc j) l = g.greatest j (omega (arith, l))

      after : (j : ℕ) → suc g.i < j → j < suc (suc (length ys)) → key (candidate (x ∷ y ∷ ys) j) < key w
      after zero k l = absurd (omega (arith, k))
      after (suc j) k l = g.last j (omega (arith, k)) (omega (arith, l))

  -- it is below the first, which stays at the head
  earlier : (x y w : Float) (ys : List Float) → key y < key x → Greatest (x ∷ ys) w → Greatest (x ∷ y ∷ ys) w
  earlier x y w ys h g = go g.i refl
    where
      most : (j : ℕ) → j < suc (suc (length ys)) → key (candidate (x ∷ y ∷ ys) j) ≤ key w
      most zero l = g.greatest 0 (omega arith)
      most (suc zero) l = omega (arith, h, g.greatest 0 (omega arith))
      most (suc (suc j)) l = g.greatest (suc j) (omega (arith, l))

      go : (i : ℕ) → g.i ≡ i → Greatest (x ∷ y ∷ ys) w
      go zero e = record {
        i = zero;
        at = record { inside = omega arith; there = subst (λ (k : ℕ). candidate (x ∷ ys) k ≡ w) e g.at.there };
        greatest = most;
        last = after;
      }
        where
          after : (j : ℕ) → zero < j → j < suc (suc (length ys)) → key (candidate (x ∷ y ∷ ys) j) < key w
          after zero k l = absurd (omega (arith, k))
          after (suc zero) k l = omega (arith, h, g.greatest 0 (omega arith))
          after (suc (suc j)) k l = g.last (suc j) (omega (arith, e)) (omega (arith, l))
      go (suc i) e = record {
        i = suc (suc i);
        at = record { inside = omega (arith, e, g.at.inside); there = subst (λ (k : ℕ). candidate (x ∷ ys) k ≡ w) e g.at.there };
        greatest = most;
        last = after;
      }
        where
          after : (j : ℕ) → suc (suc i) < j → j < suc (suc (length ys)) → key (candidate (x ∷ y ∷ ys) j) < key w
          after zero k l = absurd (omega (arith, k))
          after (suc zero) k l = absurd (omega (arith, k))
          after (suc (suc j)) k l = g.last (suc j) (omega (arith, e, k)) (omega (arith, l))

  is_greatest : (x : Float) (xs : List Float) → Greatest (x ∷ xs) (last_greatest clear x xs)
  unfolding key
  is_greatest x [] = record {
    i = zero;
    at = record { inside = omega arith; there = refl };
    greatest = most;
    last = λ j k l. absurd (omega (arith, k, l));
  }
    where
      most : (j : ℕ) → j < 1 → key (candidate (x ∷ []) j) ≤ key x
      most zero l = omega arith
      most (suc j) l = absurd (omega (arith, l))
  is_greatest x (y ∷ ys) = go (not_below (total_order (clear y) (clear x))) refl (λ z. is_greatest z ys)
    where
      go : (b : Bool) → not_below (total_order (clear y) (clear x)) ≡ b → ((z : Float) → Greatest (z ∷ ys) (last_greatest clear z ys)) → Greatest (x ∷ y ∷ ys) (last_greatest clear (cond b y x) ys)
      go true e ih = later x y (last_greatest clear y ys) ys (not_below_holds (key y) (key x) e) (ih y)
      go false e ih = earlier x y (last_greatest clear x ys) ys (below (key y) (key x) e) (ih x)

  pub last_greatest_holds : (x : Float) (xs : List Float) → LastGreatest clear (x ∷ xs) (last_greatest clear x xs)
  unfolding key
  last_greatest_holds x xs =
      let g = is_greatest x xs in
      let w = last_greatest clear x xs in
      record {
        i = g.i;
        at = g.at;
        greatest = λ j l. is_not_below (key w) (key (candidate (x ∷ xs) j)) (g.greatest j l);
        last = λ j k l. is_lt (key (candidate (x ∷ xs) j)) (key w) (g.last j k l);
      }

-- ---- the first that reaches the distance
module _ (d : Float) (clear : Float → Float) where
  -- what is found, or that nothing is
  abbrev Reached : List Float → Found → Type 0
  Reached l none = NoneReaches d clear l
  Reached l (found x) = FirstReaching d clear l x

  -- one more before those that were looked at, which does not reach it
  pass : (x : Float) (xs : List Float) (r : Found) → le d (clear x) ≡ false → Reached xs r → Reached (x ∷ xs) r
  pass x xs none h n = go
    where
      go : (j : ℕ) → j < suc (length xs) → le d (clear (candidate (x ∷ xs) j)) ≡ false
      go zero l = h
      go (suc j) l = n j (omega (arith, l))
  pass x xs (found w) h n = record {
    i = suc n.i;
    at = record { inside = omega (arith, n.at.inside); there = n.at.there };
    reaches = n.reaches;
    first = go;
  }
    where
      go : (j : ℕ) → j < suc n.i → le d (clear (candidate (x ∷ xs) j)) ≡ false
      go zero l = h
      go (suc j) l = n.first j (omega (arith, l))

  pub first_reaching_holds : (l : List Float) → Reached l (first_reaching d clear l)
  first_reaching_holds [] = λ j l. absurd (omega (arith, l))
  first_reaching_holds (x ∷ xs) = go (le d (clear x)) refl (first_reaching_holds xs)
    where
      go : (b : Bool) → le d (clear x) ≡ b → Reached xs (first_reaching d clear xs) → Reached (x ∷ xs) (if_enough b x (first_reaching d clear xs))
      go true e n = record { i = zero; at = record { inside = omega arith; there = refl }; reaches = e; first = λ j l. absurd (omega (arith, l)) }
      go false e n = pass x xs (first_reaching d clear xs) e n

  -- ---- the choice
  pub is_chosen : (x : Float) (xs : List Float) → Chosen d clear (x ∷ xs) (chosen d clear (x ∷ xs))
  unfolding chosen
  is_chosen x xs = go (first_reaching d clear (x ∷ xs)) (first_reaching_holds (x ∷ xs))
    where
      go : (r : Found) → Reached (x ∷ xs) r → Chosen d clear (x ∷ xs) (or_else r (last_greatest clear x xs))
      go none n = by_clearance n (last_greatest_holds clear x xs)
      go (found w) n = by_distance n
