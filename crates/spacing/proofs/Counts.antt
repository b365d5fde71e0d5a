-- How many of the places of both directions are within bounds: at most 8192. A sum of magnitude up to 128 is off by one tick at most. Assumes nothing.
use mathlib.Core.Path.{◌≡◌, refl, sym, ap, ◌∙◌}
use mathlib.Core.Logic.{◌⊎◌, inl, inr}
use mathlib.Core.Bool.{Bool, true, false}
use Prim.Native.Nat.{ℕ, zero, suc, ◌+◌, ◌-◌, ◌*◌, ◌≤◌, ◌<◌}
use native.Mathlib.Nat.{le_refl, le_step, add-le-add, eq-zero-or-pos, le_trans, le_of_eq, lt_of_le_of_lt, lt_of_mul-lt-mul_right, le_of_suc-le-suc}
use native.Mathlib.Omega.{arith}
use borrow.Author.Tests.{leb-true, leb-false}
use lib.Dec.{T, leb, lit<}
use lib.Ieee.{Float, binary32, neg, add, sub, le}
use Rattle.floats.specs.Values.{Number, Finite, Within}
use Rattle.spacing.specs.Spacing.{Step, offset, down_by, up_by}
use Rattle.lists.specs.Put.{count_if}
use Rattle.lists.specs.Counting.{count_to}
use Rattle.lists.proofs.Counting.{count_le}
use Rattle.floats.proofs.Laws.Signs.{sub_is_add}
use Rattle.floats.proofs.Laws.Height.{height_top, height_neg}
use Rattle.floats.proofs.Laws.Order.{le→≤}
use Rattle.floats.proofs.Laws.Rounding.{neg_finite, Kind, bottom, peak, inside, kind, sub_to_inf, any_difference, add_off_128}
use Rattle.floats.proofs.Laws.Within.{finite_within, within_neg}
use Rattle.spacing.proofs.Ticks.{tick, M, H, mid_large, tick_pos, inf_low, within_high, within_low, offset_low, offset_number, mid_pos', difference_under, S-down, S-mono}
use Rattle.spacing.proofs.Directions.{up_le}

off_by_a_tick : (x y : Float) → Finite binary32 x → Finite binary32 y → H x + H y ≤ M + M + 33554432 * tick → M + M ≤ H x + H y + 33554432 * tick
    → (H (add binary32 x y) + M ≤ H x + H y + tick) × (H x + H y ≤ H (add binary32 x y) + M + tick)
unfolding H M tick
off_by_a_tick x y p q hi lo = add_off_128 x y p q hi lo

down_room : (start step low : Float) (k : ℕ) → Within start → Within low → Step step → 0 < k → k < 16777216 → le low (down_by start step k) ≡ true → H low + k * (4096 * tick) ≤ H start + tick
down_room start step low k p q s z h e = go (kind binary32 (offset step k) y)
  where
    y : Number binary32 (offset step k)
    y = offset_number step k s z h

    reached : H low ≤ H (down_by start step k)
    reached = unfold H in le→≤ binary32 low (down_by start step k) q.number (any_difference binary32 start (offset step k) (finite_within start p) y) e

    at_least : M + k * (4096 * tick) ≤ H (offset step k)
    at_least = offset_low step k s z h

    turned : Finite binary32 (offset step k) → H (neg (offset step k)) ≡ M + M - H (offset step k)
    turned g = unfold H M in height_neg binary32 (offset step k) g.fit y.no_nan

    top : H (offset step k) ≤ M + M
    top = unfold H M in height_top binary32 (offset step k) y.fit y.no_nan

    -- the exact difference is -128 at least, since it is rounded to the bound or more
    near_enough : M + M ≤ H start + (M + M - H (offset step k)) + 33554432 * tick
    near_enough = by_test (leb (M + M) (H start + (M + M - H (offset step k)) + 33554432 * tick)) refl
      where
        by_test : (b : Bool) → leb (M + M) (H start + (M + M - H (offset step k)) + 33554432 * tick) ≡ b → M + M ≤ H start + (M + M - H (offset step k)) + 33554432 * tick
        by_test true t = leb-true (M + M) (H start + (M + M - H (offset step k)) + 33554432 * tick) t
        by_test false t =
            let g = leb-false (M + M) (H start + (M + M - H (offset step k)) + 33554432 * tick) t in
            let a = difference_under start (offset step k) (finite_within start p) y (omega (arith, at_least)) in
            let b = S-mono (H start + (M + M - H (offset step k))) (M + M - 8192 * (4096 * tick)) (omega (arith, g, mid_large)) in
            absurd (omega (arith, a, b, S-down 8192 (lit< tt), reached, within_low low q, mid_large, tick_pos))

    go : Kind binary32 (offset step k) → H low + k * (4096 * tick) ≤ H start + tick
    go (bottom g) = absurd (omega (arith, ap H g, inf_low, at_least, mid_pos'))
    go (peak g) = absurd (omega (arith, ap H (ap (sub binary32 start) g ∙ sub_to_inf binary32 start (finite_within start p)), inf_low, reached, within_low low q, mid_large, tick_pos))
    go (inside g) =
        let t = turned g in
        let d : H (down_by start step k) ≡ H (add binary32 start (neg (offset step k))) = ap H (sub_is_add binary32 start (offset step k)) in
        let o = off_by_a_tick start (neg (offset step k)) (finite_within start p) (neg_finite binary32 (offset step k) g) (omega (arith, t, within_high start p, at_least)) (omega (arith, t, near_enough)) in
        omega (arith, o.0, d, t, reached, at_least, top)

up_room : (start step high : Float) (k : ℕ) → Within start → Within high → Step step → 0 < k → k < 16777216 → le (up_by start step k) high ≡ true → H start + k * (4096 * tick) ≤ H high + tick
up_room start step high k p q s z h e =
    omega (arith, down_room (neg start) step (neg high) k (within_neg start p) (within_neg high q) s z h (sym (up_le start step high k) ∙ e), opposite start p.number, opposite high q.number, ceiling start p.number, ceiling high q.number)
  where
    opposite : (v : Float) → Number binary32 v → H (neg v) ≡ M + M - H v
    opposite v n = unfold H M in height_neg binary32 v n.fit n.no_nan

    ceiling : (v : Float) → Number binary32 v → H v ≤ M + M
    ceiling v n = unfold H M in height_top binary32 v n.fit n.no_nan

-- so any a of one direction and any b of the other within bounds come to 8192 at most, with 0 for none
few : (t a b s l h m : ℕ) → 0 < t → (a ≡ 0) ⊎ (l + a * (4096 * t) ≤ s + t) → (b ≡ 0) ⊎ (s + b * (4096 * t) ≤ h + t) → s ≤ m + 16777216 * t → m ≤ s + 16777216 * t → h ≤ m + 16777216 * t → m ≤ l + 16777216 * t → a + b ≤ 8192
few t a b s l h m T x y p q r u = le_of_suc-le-suc (lt_of_mul-lt-mul_right (4096 * t) (go x y))
  where
    go : (a ≡ 0) ⊎ (l + a * (4096 * t) ≤ s + t) → (b ≡ 0) ⊎ (s + b * (4096 * t) ≤ h + t) → (a + b) * (4096 * t) < 8193 * (4096 * t)
    go (inl e) (inl g) = omega (arith, ap (λ (z : ℕ). z * t) e, ap (λ (z : ℕ). z * t) g)
    go (inl e) (inr g) = omega (arith, ap (λ (z : ℕ). z * t) e)
    go (inr e) (inl g) = omega (arith, ap (λ (z : ℕ). z * t) g)
    go (inr e) (inr g) = omega arith

pub together : (start step low high : Float) (a b : ℕ) → Within start → Within low → Within high → Step step → a < 16777216 → b < 16777216
    → (0 < a → le low (down_by start step a) ≡ true) → (0 < b → le (up_by start step b) high ≡ true) → a + b ≤ 8192
together start step low high a b p q r s i j x y = few tick a b (H start) (H low) (H high) M tick_pos (left (eq-zero-or-pos a)) (right (eq-zero-or-pos b)) (within_high start p) (within_low start p) (within_high high r) (within_low low q)
  where
    left : (a ≡ 0) ⊎ (0 < a) → (a ≡ 0) ⊎ (H low + a * (4096 * tick) ≤ H start + tick)
    left (inl e) = inl e
    left (inr z) = inr (down_room start step low a p q s z i (x z))

    right : (b ≡ 0) ⊎ (0 < b) → (b ≡ 0) ⊎ (H start + b * (4096 * tick) ≤ H high + tick)
    right (inl e) = inl e
    right (inr z) = inr (up_room start step high b p r s z j (y z))

-- the last that passes is no smaller than the count
pub record Last (P : ℕ → Bool) (n : ℕ) : Type 0 where
  pub at : ℕ
  pub reach : count_to n (λ i. P (suc i)) ≤ at
  pub below : at ≤ n
  pub passes : 0 < at → P at ≡ true

last : (P : ℕ → Bool) (n : ℕ) → Last P n
unfolding count_to
last P zero = record { at = 0; reach = le_refl 0; below = le_refl 0; passes = λ z. absurd (omega (arith, z)) }
last P (suc n) = go (P (suc n)) refl (last P n)
  where
    go : (b : Bool) → P (suc n) ≡ b → Last P n → Last P (suc n)
    go true e r = record { at = suc n; reach = count_le (suc n) (λ i. P (suc i)); below = le_refl (suc n); passes = λ z. e }
    go false e r = record { at = r.at; reach = le_trans (le_of_eq (ap (λ (b : Bool). count_if b (count_to n (λ i. P (suc i)))) e)) r.reach; below = le_step r.below; passes = r.passes }

-- the count of both directions, over any k up to n: with the start itself 8193 places always do
pub at_most_8192 : (start step low high : Float) (n : ℕ) → Within start → Within low → Within high → Step step → n < 16777216
    → count_to n (λ i. le low (down_by start step (suc i))) + count_to n (λ i. le (up_by start step (suc i)) high) ≤ 8192
at_most_8192 start step low high n p q r s h =
    let a = last (λ k. le low (down_by start step k)) n in
    let b = last (λ k. le (up_by start step k) high) n in
    let t : a.at + b.at ≤ 8192 = together start step low high a.at b.at p q r s (lt_of_le_of_lt a.below h) (lt_of_le_of_lt b.below h) a.passes b.passes in
    le_trans (add-le-add a.reach b.reach) t
