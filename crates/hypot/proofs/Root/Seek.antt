-- `seek` finds the one pattern whose halfway point is not passed, while that of each pattern before it is. Such a pattern is one of the two around the root.
use Rattle.std.proofs.Common.{◌≡◌, ℕ, zero, suc, ◌+◌, ◌-◌, ◌*◌, ◌%◌, ◌^◌, ◌<◌, ◌≤◌, Bool, true, false, cond, not, T, eqb, sym, refl, ap, subst, inl, inr, le_trans, le_of_eq, lt_of_lt_of_le, lt_of_le_of_lt, le_of_lt, mul_assoc, mul-le-mul, eq-or-lt_of_le, mul-le-mul_left, mul-lt-mul_of_pos_right, mul_left_comm, arith, T_not, pow_pos}
use native.Mathlib.Nat.{pow-succ'}
use Rattle.hypot.specs.Hypot.{units_of, halfway, beyond, past, seek}
use Rattle.lists.proofs.Comparing.{by_order}
use Rattle.hypot.proofs.Root.Units.{units_lt, units_le}

-- each pattern below b is passed, and neither b nor any above it is
pub record Turns (n b : ℕ) : Type 0 where
  pub below : (c : ℕ) → c < b → T (past n c)
  pub above : (c : ℕ) → b ≤ c → T (not (past n c))

zero_case : (b lo p : ℕ) → p ≡ 1 → lo ≤ b → b < lo + p → lo ≡ b
zero_case b lo p e h l = omega arith

pub seek_finds : (n b : ℕ) → Turns n b → (k lo : ℕ) → lo ≤ b → b < lo + 2 ^ k → seek n k lo ≡ b
unfolding seek
seek_finds n b t zero lo h l = zero_case b lo (2 ^ 0) refl h l
seek_finds n b t (suc k) lo h l = go (past n (lo + 2 ^ k - 1)) refl (seek_finds n b t k)
  where
    p : 0 < 2 ^ k
    p = pow_pos k

    twice : (x y q : ℕ) → x ≡ 2 * q → b < lo + x → y ≡ lo + q → b < y + q
    twice x y q e h g = omega arith

    low : (q : ℕ) → 0 < q → (lo + q - 1 < b → ⊥) → b < lo + q
    low q p f = omega arith

    high : (q : ℕ) → 0 < q → (b ≤ lo + q - 1 → ⊥) → lo + q ≤ b
    high q p f = omega arith

    go : (s : Bool) → past n (lo + 2 ^ k - 1) ≡ s → ((lo : ℕ) → lo ≤ b → b < lo + 2 ^ k → seek n k lo ≡ b) → seek n k (cond s (lo + 2 ^ k) lo) ≡ b
    go true e ih =
        ih (lo + 2 ^ k)
        (high (2 ^ k) p (λ g. T_not (past n (lo + 2 ^ k - 1)) (t.above (lo + 2 ^ k - 1) g) (subst T (sym e) tt)))
        (twice (2 ^ suc k) (lo + 2 ^ k) (2 ^ k) (pow-succ' 2 k) l refl)
    go false e ih =
        ih lo h
        (low (2 ^ k) p (λ g. T_not (past n (lo + 2 ^ k - 1)) (subst (λ (x : Bool). T (not x)) (sym e) tt) (t.below (lo + 2 ^ k - 1) g)))

-- ---- what `past` says, by the three ways in which 4 * n compares with the halfway point's square
same_lt : (a b : ℕ) → a ≡ b → a < b → ⊥
same_lt a b e h = omega arith

both_lt : (a b : ℕ) → b < a → a < b → ⊥
both_lt a b e h = omega arith

pub past_yes : (n b : ℕ) → halfway b * halfway b < 4 * n → T (past n b)
unfolding past
past_yes n b h =
    by_order (λ o. T (beyond b o)) (4 * n) (halfway b * halfway b)
    (λ l. absurd (both_lt (4 * n) (halfway b * halfway b) h l))
    (λ e. absurd (same_lt (halfway b * halfway b) (4 * n) (sym e) h))
    (λ l. tt)

pub past_no : (n b : ℕ) → 4 * n < halfway b * halfway b → T (not (past n b))
unfolding past
past_no n b h =
    by_order (λ o. T (not (beyond b o))) (4 * n) (halfway b * halfway b)
    (λ l. tt)
    (λ e. absurd (same_lt (4 * n) (halfway b * halfway b) e h))
    (λ l. absurd (both_lt (4 * n) (halfway b * halfway b) l h))

pub past_tie : (n b : ℕ) → 4 * n ≡ halfway b * halfway b → past n b ≡ eqb (b % 2) 1
unfolding past
past_tie n b h =
    by_order (λ o. beyond b o ≡ eqb (b % 2) 1) (4 * n) (halfway b * halfway b)
    (λ l. absurd (same_lt (4 * n) (halfway b * halfway b) h l))
    (λ e. refl)
    (λ l. absurd (same_lt (halfway b * halfway b) (4 * n) (sym h) l))

-- ---- the patterns around the root: the one below turns or the next does
pub sq_lt : (a b : ℕ) → a < b → a * a < b * b
sq_lt a b h = lt_of_le_of_lt (mul-le-mul_left a (le_of_lt h)) (mul-lt-mul_of_pos_right h (positive a b h))
  where
    positive : (a b : ℕ) → a < b → 0 < b
    positive a b h = omega arith

pub sq_le : (a b : ℕ) → a ≤ b → a * a ≤ b * b
sq_le a b h = mul-le-mul h h

pub sq_twice : (a : ℕ) → (2 * a) * (2 * a) ≡ 4 * (a * a)
sq_twice a = simp (mul_assoc, mul_left_comm) (ap (λ (x : ℕ). x) (two_two (a * a)))
  where
    two_two : (x : ℕ) → 2 * (2 * x) ≡ 4 * x
    two_two x = omega arith

module _ (n b : ℕ) (lo : units_of b * units_of b ≤ n) (hi : n < units_of (suc b) * units_of (suc b)) where
  passed : (c : ℕ) → c < b → T (past n c)
  unfolding halfway
  passed c h =
      past_yes n c
      (lt_of_lt_of_le (sq_lt (halfway c) (2 * units_of b) (under (units_of c) (units_of (suc c)) (units_of b) (units_lt c b h) (units_le (suc c) b h)))
      (le_trans (le_of_eq (sq_twice (units_of b))) (four (units_of b * units_of b) n lo)))
    where
      under : (x y z : ℕ) → x < z → y ≤ z → x + y < 2 * z
      under x y z p q = omega arith

      four : (x y : ℕ) → x ≤ y → 4 * x ≤ 4 * y
      four x y h = omega arith

  ahead : (c : ℕ) → b < c → T (not (past n c))
  unfolding halfway
  ahead c h =
      past_no n c
      (lt_of_lt_of_le (lt_of_lt_of_le (four n (units_of (suc b) * units_of (suc b)) hi) (le_of_eq (sym (sq_twice (units_of (suc b))))))
      (sq_le (2 * units_of (suc b)) (halfway c) (over (units_of c) (units_of (suc c)) (units_of (suc b)) (units_le (suc b) c h) (units_le (suc b) (suc c) (wide b c h)))))
    where
      over : (x y z : ℕ) → z ≤ x → z ≤ y → 2 * z ≤ x + y
      over x y z p q = omega arith

      wide : (b c : ℕ) → b < c → suc b ≤ suc c
      wide b c h = omega arith

      four : (x y : ℕ) → x < y → 4 * x < 4 * y
      four x y h = omega arith

  pub turns_here : T (not (past n b)) → Turns n b
  turns_here t = record {
    below = passed;
    above = λ c h. elim (eq-or-lt_of_le h) [ inl e ↦ subst (λ (x : ℕ). T (not (past n x))) e t | inr l ↦ ahead c l ];
  }

  pub turns_next : T (past n b) → Turns n (suc b)
  turns_next t = record {
    below = λ c h. elim (eq-or-lt_of_le (back c b h)) [ inl e ↦ subst (λ (x : ℕ). T (past n x)) (sym e) t | inr l ↦ passed c l ];
    above = λ c h. ahead c h;
  }
    where
      back : (c b : ℕ) → c < suc b → c ≤ b
      back c b h = omega arith
