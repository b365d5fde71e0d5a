-- The heights of k * step, where step is 1/64 at least, or infinite: k / 64 at least, and growing with k; and of the values within 64.
-- A `tick` is 2 ^ 131 units of 2 ^ -149, which is 2 ^ -18: 1/64 is 4096 ticks, and 64 is 16777216. Assumes nothing.
use mathlib.Core.Path.{◌≡◌, refl, sym, ap, ◌∙◌}
use mathlib.Core.Bool.{true, false}
use Prim.Native.Nat.{ℕ, ◌+◌, ◌-◌, ◌*◌, ◌^◌, ◌≤◌, ◌<◌, zero-le, min}
use native.Mathlib.Nat.{le-add_right, le_trans, le_of_eq, le_of_lt, lt_of_lt_of_le, lt_of_le_of_lt, mul-le-mul_right, mul-le-mul_left}
use native.Mathlib.Omega.{arith}
use lib.IntN.{ℤ, pos}
use lib.Dec.{T, lit≤}
use lib.Pow.{pow_pos}
use lib.Ieee.{Float, nan, inf, fin, binary32, neg, sub, of_int, fits, is_nan, of_bits}
use lib.Ieee.Fits.{mul-fits}
use lib.Ieee.Exact.{HasValue}
use lib.Ieee.Back.{round_whole}
use Rattle.floats.specs.Arithmetic.{sixty_four, sixty_fourth}
use Rattle.floats.specs.Values.{Number, Finite, Within}
use Rattle.floats.specs.Height.{mid, height, mag}
use Rattle.floats.specs.Near.{near}
use Rattle.spacing.specs.Spacing.{Step, offset}
use Rattle.floats.proofs.Laws.Height.{mid_pos, height_neg}
use Rattle.floats.proofs.Laws.Order.{le→≤, neg_number}
use Rattle.floats.proofs.Laws.Near.{near_mono, near_exact}
use Rattle.floats.proofs.Laws.Rounding.{number_of_height, Kind, bottom, peak, inside, kind, above, under, settle, settle_down, settle_mono, sub_height, sub_to_inf}
use Rattle.floats.proofs.Laws.Constants.{sixty_four_number, sixty_fourth_number}
use Rattle.floats.proofs.Laws.Products.{times_height, times_inf}

-- ---- heights, by definitions that stay shut, so that omega meets no numeral of 40 digits
unfoldable pub tick : ℕ
tick = 2 ^ 131

unfoldable pub M : ℕ
M = mid binary32

unfoldable pub H : Float → ℕ
H x = height binary32 x

sixty_four_height : H sixty_four ≡ M + 16777216 * tick
unfolding H M tick height of_bits
sixty_four_height = refl

sixty_fourth_height : H sixty_fourth ≡ M + 4096 * tick
unfolding H M tick height of_bits
sixty_fourth_height = refl

-- 2 ^ 277
pub mid_large : 18446744073709551616 * tick ≤ M
unfolding M tick mid
mid_large = lit≤ tt

pub tick_pos : 0 < tick
unfolding tick
tick_pos = pow_pos 131

pub inf_low : H (inf true) ≡ 0
unfolding H height
inf_low = refl

inf_high : H (inf false) ≡ M + M
unfolding H M height
inf_high = refl

pub within_high : (v : Float) → Within v → H v ≤ M + 16777216 * tick
unfolding H
within_high v w = le_trans (le→≤ binary32 v sixty_four w.number sixty_four_number w.highest) (le_of_eq sixty_four_height)

pub within_low : (v : Float) → Within v → M ≤ H v + 16777216 * tick
unfolding H M
within_low v w = omega (arith, le→≤ binary32 (neg sixty_four) v (neg_number binary32 sixty_four sixty_four_number) w.number w.lowest, height_neg binary32 sixty_four sixty_four_number.fit sixty_four_number.no_nan, sixty_four_height)

-- ---- k * step: at least k / 64, and it grows with k
data Stride (v : Float) : Type 0 where
  endless : v ≡ inf false → Stride v
  by : (n : ℕ) (d : ℤ) → v ≡ fin false n d → T (fits binary32 (fin false n d)) → 4096 * tick ≤ mag binary32 n d → Stride v

step_low : (v : Float) → Step v → M + 4096 * tick ≤ H v
unfolding H
step_low v s = le_trans (le_of_eq (sym sixty_fourth_height)) (le→≤ binary32 sixty_fourth v sixty_fourth_number s.number s.lowest)

stride : (v : Float) → Step v → Stride v
unfolding height H M is_nan
stride nan s = absurd s.number.no_nan
stride (inf true) s = absurd (omega (arith, step_low (inf true) s, mid_pos binary32))
stride (inf false) s = endless refl
stride (fin true n d) s = absurd (omega (arith, step_low (fin true n d) s, tick_pos))
stride (fin false n d) s = by n d refl s.number.fit (omega (arith, step_low (fin false n d) s))

counts : (k : ℕ) → k < 16777216 → HasValue (of_int binary32 (pos k)) false k 1
unfolding of_int
counts k h = round_whole binary32 false k (le_of_lt h)

-- the height of k * step, by that of step
O : ℕ → ℕ
O w = above binary32 (near binary32 w)

offset_by : (n k : ℕ) (d : ℤ) → T (fits binary32 (fin false n d)) → k < 16777216 → H (offset (fin false n d) k) ≡ O (k * mag binary32 n d)
unfolding H O
offset_by n k d p h = times_height binary32 (of_int binary32 (pos k)) k n d (counts k h) p

offset_endless : (k : ℕ) → 0 < k → k < 16777216 → offset (inf false) k ≡ inf false
offset_endless k z h = times_inf binary32 (of_int binary32 (pos k)) k (counts k h) z

O-mono : (v w : ℕ) → v ≤ w → O v ≤ O w
unfolding O
O-mono v w h = step (mid binary32) (near binary32 v) (near binary32 w) (near_mono binary32 v w h)
  where
    step : (m a b : ℕ) → a ≤ b → m + min a m ≤ m + min b m
    step m a b h = omega arith

O-top : (w : ℕ) → O w ≤ M + M
unfolding O M
O-top w = top (mid binary32) (near binary32 w)
  where
    top : (m a : ℕ) → m + min a m ≤ m + m
    top m a = omega arith

O-exact : (k : ℕ) → k < 16777216 → O (k * (4096 * tick)) ≡ M + k * (4096 * tick)
unfolding O M tick
O-exact k h = ap (above binary32) (near_exact binary32 (k * 2 ^ 143) k 143 h refl) ∙ capped (mid binary32) (k * 2 ^ 143) (le_trans (mul-le-mul_right (2 ^ 143) (le_of_lt h)) small)
  where
    capped : (m a : ℕ) → a ≤ m → m + min a m ≡ m + a
    capped m a h = omega arith

    small : 16777216 * 2 ^ 143 ≤ mid binary32
    small = unfold mid in lit≤ tt

pub offset_low : (step : Float) (k : ℕ) → Step step → 0 < k → k < 16777216 → M + k * (4096 * tick) ≤ H (offset step k)
offset_low step k s z h = go (stride step s)
  where
    go : Stride step → M + k * (4096 * tick) ≤ H (offset step k)
    go (endless e) =
        le_trans (le_of_eq (sym (O-exact k h))) (le_trans (O-top (k * (4096 * tick))) (le_of_eq (sym (ap H (ap (λ (v : Float). offset v k) e ∙ offset_endless k z h) ∙ inf_high))))
    go (by n d e p l) =
        le_trans (le_of_eq (sym (O-exact k h))) (le_trans (O-mono (k * (4096 * tick)) (k * mag binary32 n d) (mul-le-mul_left k l)) (le_of_eq (sym (ap (λ (v : Float). H (offset v k)) e ∙ offset_by n k d p h))))

pub offset_rises : (step : Float) (j k : ℕ) → Step step → 0 < j → j ≤ k → k < 16777216 → H (offset step j) ≤ H (offset step k)
offset_rises step j k s z l h = go (stride step s)
  where
    j_small : j < 16777216
    j_small = lt_of_le_of_lt l h

    go : Stride step → H (offset step j) ≤ H (offset step k)
    go (endless e) = le_of_eq (ap H (ap (λ (v : Float). offset v j) e ∙ offset_endless j z j_small ∙ sym (ap (λ (v : Float). offset v k) e ∙ offset_endless k (lt_of_lt_of_le z l) h)))
    go (by n d e p b) =
        le_trans (le_of_eq (ap (λ (v : Float). H (offset v j)) e ∙ offset_by n j d p j_small))
        (le_trans (O-mono (j * mag binary32 n d) (k * mag binary32 n d) (mul-le-mul_right (mag binary32 n d) l)) (le_of_eq (sym (ap (λ (v : Float). H (offset v k)) e ∙ offset_by n k d p h))))

pub offset_number : (step : Float) (k : ℕ) → Step step → 0 < k → k < 16777216 → Number binary32 (offset step k)
unfolding H M
offset_number step k s z h = number_of_height binary32 (offset step k) (mul-fits binary32 (of_int binary32 (pos k)) step) (go (stride step s))
  where
    go : Stride step → H (offset step k) ≤ M + M
    go (endless e) = le_of_eq (ap H (ap (λ (v : Float). offset v k) e ∙ offset_endless k z h) ∙ inf_high)
    go (by n d e p l) = le_trans (le_of_eq (ap (λ (v : Float). H (offset v k)) e ∙ offset_by n k d p h)) (O-top (k * mag binary32 n d))

-- ---- start ± y for a y that is not below zero, an infinity too
pub mid_pos' : 0 < M
unfolding M
mid_pos' = mid_pos binary32

small : (k : ℕ) → k < 16777216 → k * (4096 * tick) ≤ M
small k h = le_trans (mul-le-mul_right (4096 * tick) (le_of_lt h)) (le_trans (more tick) mid_large)
  where
    more : (t : ℕ) → 16777216 * (4096 * t) ≤ 18446744073709551616 * t
    more t = omega arith

pub S : ℕ → ℕ
S z = settle binary32 z

-- at most where the exact difference is rounded to
pub difference_under : (x y : Float) → Finite binary32 x → Number binary32 y → M ≤ H y → H (sub binary32 x y) ≤ S (H x + (M + M - H y))
difference_under x y p q h = go (kind binary32 y q)
  where
    go : Kind binary32 y → H (sub binary32 x y) ≤ S (H x + (M + M - H y))
    go (bottom e) = absurd (omega (arith, ap H e, inf_low, mid_pos'))
    go (peak e) = le_trans (le_of_eq (ap H (ap (sub binary32 x) e ∙ sub_to_inf binary32 x p) ∙ inf_low)) zero-le
    go (inside k) = le_of_eq (unfold H S M in sub_height binary32 x y p k)

-- rounded numbers of ticks, up to 2 ^ 24 times 4096 of them
pub S-down : (k : ℕ) → k < 16777216 → S (M + M - k * (4096 * tick)) ≡ M - k * (4096 * tick)
unfolding S M
S-down k h = settle_down binary32 (M + M - k * (4096 * tick)) (k * (4096 * tick)) (back (M + M) (k * (4096 * tick)) (le_trans (small k h) (unfold M in le-add_right (mid binary32) (mid binary32)))) ∙ ap (under binary32) (unfold tick in near_exact binary32 (k * 2 ^ 143) k 143 h refl)
  where
    back : (z w : ℕ) → w ≤ z → z - w + w ≡ z
    back z w h = omega arith

pub S-mono : (y z : ℕ) → y ≤ z → S y ≤ S z
unfolding S
S-mono y z h = settle_mono binary32 y z h
