-- The places start - k * step and start + k * step, for k = 1, 2, .., where start and the bounds are within 64 either way and step is 1/64 at least, or infinite.
-- Each direction only moves away as k grows, so those within a bound are a front part. From k = 8193 on both are out of bounds. Assumes nothing.
use mathlib.Core.Path.{◌≡◌, sym, ◌∙◌, subst}
use mathlib.Core.Bool.{true}
use Prim.Native.Nat.{ℕ, ◌+◌, ◌-◌, ◌*◌, ◌≤◌, ◌<◌}
use native.Mathlib.Nat.{le_trans, lt_of_lt_of_le, lt_of_le_of_lt, mul-le-mul_right}
use native.Mathlib.Omega.{arith}
use lib.Dec.{lit<}
use lib.Ieee.{Float, binary32, neg, lt, le}
use Rattle.floats.specs.Values.{Alike, Number, Finite, Within}
use Rattle.spacing.specs.Spacing.{Step, offset, down_by, up_by}
use Rattle.floats.proofs.Laws.Signs.{alike_refl, alike_sym, lt_neg, le_neg, add_neg_neg, sub_is_add}
use Rattle.floats.proofs.Laws.Zeros.{alike_le, alike_lt_left}
use Rattle.floats.proofs.Laws.Order.{lt→<, <→lt, le→≤, ≤→le, le_trans_f, neg_number}
use Rattle.floats.proofs.Laws.Rounding.{finite_number, neg_finite, sub_anti, any_difference}
use Rattle.floats.proofs.Laws.Within.{finite_within, within_neg}
use Rattle.spacing.proofs.Ticks.{tick, M, H, mid_large, tick_pos, within_high, within_low, offset_low, offset_rises, offset_number, difference_under, S-down, S-mono}

-- ---- each direction only moves away
pub down_falls : (start step : Float) (j k : ℕ) → Finite binary32 start → Step step → 0 < j → j ≤ k → k < 16777216 → le (down_by start step k) (down_by start step j) ≡ true
down_falls start step j k p s z l h =
    sub_anti binary32 start (offset step j) (offset step k) (finite_number binary32 start p) (offset_number step j s z (lt_of_le_of_lt l h)) (offset_number step k s (lt_of_lt_of_le z l) h)
    (any_difference binary32 start (offset step j) p (offset_number step j s z (lt_of_le_of_lt l h))).no_nan (any_difference binary32 start (offset step k) p (offset_number step k s (lt_of_lt_of_le z l) h)).no_nan
    (≤→le binary32 (offset step j) (offset step k) (offset_number step j s z (lt_of_le_of_lt l h)) (offset_number step k s (lt_of_lt_of_le z l) h) (unfold H in offset_rises step j k s z l h))

-- so those within a bound are a front part
pub down_front : (start step low : Float) (j k : ℕ) → Finite binary32 start → Number binary32 low → Step step → 0 < j → j ≤ k → k < 16777216 → le low (down_by start step k) ≡ true → le low (down_by start step j) ≡ true
down_front start step low j k p q s z l h t =
    le_trans_f binary32 low (down_by start step k) (down_by start step j) q
    (any_difference binary32 start (offset step k) p (offset_number step k s (lt_of_lt_of_le z l) h)) (any_difference binary32 start (offset step j) p (offset_number step j s z (lt_of_le_of_lt l h))) t (down_falls start step j k p s z l h)

-- and once out of bounds a direction stays out
pub down_stays_out : (start step low : Float) (j k : ℕ) → Finite binary32 start → Number binary32 low → Step step → 0 < j → j ≤ k → k < 16777216 → lt (down_by start step j) low ≡ true → lt (down_by start step k) low ≡ true
down_stays_out start step low j k p q s z l h t =
    let J = any_difference binary32 start (offset step j) p (offset_number step j s z (lt_of_le_of_lt l h)) in
    let K = any_difference binary32 start (offset step k) p (offset_number step k s (lt_of_lt_of_le z l) h) in
    <→lt binary32 (down_by start step k) low K q (lt_of_le_of_lt (le→≤ binary32 (down_by start step k) (down_by start step j) K J (down_falls start step j k p s z l h)) (lt→< binary32 (down_by start step j) low J q t))

-- ---- from 8193 on both are out of bounds
pub down_out : (start step low : Float) (k : ℕ) → Within start → Within low → Step step → 8193 ≤ k → k < 16777216 → lt (down_by start step k) low ≡ true
down_out start step low k p q s l h =
    <→lt binary32 (down_by start step k) low (any_difference binary32 start (offset step k) (finite_within start p) y) q.number (unfold H in far)
  where
    y : Number binary32 (offset step k)
    y = offset_number step k s (lt_of_lt_of_le (lit< {m = 0} {n = 8193} tt) l) h

    at_least : M + 8193 * (4096 * tick) ≤ H (offset step k)
    at_least = le_trans (le_of_add (mul-le-mul_right (4096 * tick) l)) (offset_low step k s (lt_of_lt_of_le (lit< {m = 0} {n = 8193} tt) l) h)
      where
        le_of_add : {a b : ℕ} → a ≤ b → M + a ≤ M + b
        le_of_add {a} {b} g = omega arith

    far : H (down_by start step k) < H low
    far =
        let a = difference_under start (offset step k) (finite_within start p) y (omega (arith, at_least)) in
        let b = S-mono (H start + (M + M - H (offset step k))) (M + M - 4097 * (4096 * tick)) (omega (arith, within_high start p, at_least, mid_large, tick_pos)) in
        let c = S-down 4097 (lit< tt) in
        omega (arith, a, b, c, within_low low q, mid_large, tick_pos)

-- ---- the other direction is this one, with the signs changed: start + y is -(-start - y) but for the sign of a zero
turned : (start step : Float) (k : ℕ) → Alike (neg (up_by start step k)) (down_by (neg start) step k)
turned start step k =
    alike_sym (down_by (neg start) step k) (neg (up_by start step k)) (subst (λ (v : Float). Alike v (neg (up_by start step k))) (sym (sub_is_add binary32 (neg start) (offset step k))) (add_neg_neg binary32 start (offset step k)))

pub up_le : (start step high : Float) (k : ℕ) → le (up_by start step k) high ≡ le (neg high) (down_by (neg start) step k)
up_le start step high k = sym (le_neg (up_by start step k) high) ∙ alike_le (neg high) (neg high) (neg (up_by start step k)) (down_by (neg start) step k) (alike_refl (neg high)) (turned start step k)

up_lt : (start step high : Float) (k : ℕ) → lt high (up_by start step k) ≡ lt (down_by (neg start) step k) (neg high)
up_lt start step high k = sym (lt_neg high (up_by start step k)) ∙ alike_lt_left (neg (up_by start step k)) (down_by (neg start) step k) (neg high) (turned start step k)

pub up_front : (start step high : Float) (j k : ℕ) → Finite binary32 start → Number binary32 high → Step step → 0 < j → j ≤ k → k < 16777216 → le (up_by start step k) high ≡ true → le (up_by start step j) high ≡ true
up_front start step high j k p q s z l h t = up_le start step high j ∙ down_front (neg start) step (neg high) j k (neg_finite binary32 start p) (neg_number binary32 high q) s z l h (sym (up_le start step high k) ∙ t)

pub up_stays_out : (start step high : Float) (j k : ℕ) → Finite binary32 start → Number binary32 high → Step step → 0 < j → j ≤ k → k < 16777216 → lt high (up_by start step j) ≡ true → lt high (up_by start step k) ≡ true
up_stays_out start step high j k p q s z l h t = up_lt start step high k ∙ down_stays_out (neg start) step (neg high) j k (neg_finite binary32 start p) (neg_number binary32 high q) s z l h (sym (up_lt start step high j) ∙ t)

pub up_out : (start step high : Float) (k : ℕ) → Within start → Within high → Step step → 8193 ≤ k → k < 16777216 → lt high (up_by start step k) ≡ true
up_out start step high k p q s l h = up_lt start step high k ∙ down_out (neg start) step (neg high) k (within_neg start p) (within_neg high q) s l h
