-- `near f w`: of the whole numbers that the format f keeps, the one nearest to w, a tie to the even significand. In units of f's smallest value this is what `round` does.
-- It keeps the order, it changes no number that has at most `prec f` digits beside its closing zeros, and it is off by at most half of 2 ^ k, where k is how many digits it drops.
-- No float here: heights of rounded values are in Rounding. Assumes nothing.
use mathlib.Core.Path.{◌≡◌, sym, ap, ap₂, ◌∙◌, subst}
use mathlib.Core.Logic.{◌⊎◌, inl, inr}
use Prim.Native.Nat.{ℕ, zero, suc, ◌+◌, ◌-◌, ◌*◌, ◌/◌, ◌%◌, ◌^◌, ◌≤◌, ◌<◌, compare}
use native.Mathlib.Nat.{le_trans, le_of_eq, lt_of_lt_of_le, lt_of_le_of_lt, eq-or-lt_of_le, mul_assoc, mul-one, one-mul, mul-le-mul_right, mul-pos, zero-mul, mod-one, div-one, div-add-mod', le-div_iff_mul-le, mul-div_cancel, mod-lt, add-mul, suc-mul}
use native.Mathlib.Omega.{arith}
use lib.Dec.{lit<}
use lib.Pow.{pow-add, pow_pos, pow_mono, shl_lt}
use lib.Ieee.{Format, prec, low, size, nearest}
use lib.Ieee.Digits.{size-lt, size-le, size_reaches, back}
use lib.Ieee.Fits.{nearest-le, kept-lt, two, two-le_pos}
use lib.Ieee.Nearest.{closest, closest_mono, closest_same, nearest-ge}
use lib.Ieee.Scale.{grid}
use Rattle.floats.specs.Near.{near, spare, Near}
use Rattle.lists.proofs.Comparing.{by_order}

-- ---- the fraction a / c, where that is w units
pub grid_near : (f : Format) (a c w : ℕ) → 0 < c → a * 2 ^ low f ≡ w * c → grid f a c ≡ near f w
unfolding near
grid_near f a c w C h =
    let k = spare f w in
    let e : size (a * 2 ^ low f / c) - prec f ≡ k = ap (λ (z : ℕ). size z - prec f) (ap (λ (z : ℕ). z / c) h ∙ mul-div_cancel w C) in
    ap (λ (z : ℕ). closest (a * 2 ^ low f) (c * 2 ^ z) * 2 ^ z) e
    ∙ ap (λ (z : ℕ). z * 2 ^ k) (closest_same (a * 2 ^ low f) (c * 2 ^ k) w (2 ^ k) (mul-pos C (pow_pos k)) (pow_pos k) (ap (λ (z : ℕ). z * 2 ^ k) h ∙ mul_assoc w c (2 ^ k)))

-- ---- order
size_mono : (a b : ℕ) → a ≤ b → size a ≤ size b
size_mono a b h = size-le a (size b) (lt_of_le_of_lt h (size-lt b))

near_ceiling : (f : Format) (w : ℕ) → near f w ≤ 2 ^ (prec f + spare f w)
unfolding near
near_ceiling f w =
    let k = spare f w in
    le_trans (mul-le-mul_right (2 ^ k) (le_trans (nearest-le (w / 2 ^ k) (compare (w % 2 ^ k * 2) (2 ^ k))) (kept-lt (prec f) w))) (le_of_eq (sym (pow-add 2 (prec f) k)))

all_in_use : (z p : ℕ) → 0 < p → 0 < z - p → p - 1 + (z - p) < z
all_in_use z p P h = omega arith

near_floor : (f : Format) (w : ℕ) → 0 < spare f w → 2 ^ (prec f - 1 + spare f w) ≤ near f w
unfolding near
near_floor f w K =
    let k = spare f w in
    le_trans (le_of_eq (pow-add 2 (prec f - 1) k))
    (mul-le-mul_right (2 ^ k)
    (le_trans ((le-div_iff_mul-le (pow_pos k)).1 (le_trans (le_of_eq (sym (pow-add 2 (prec f - 1) k))) (size_reaches w (prec f - 1 + k) (all_in_use (size w) (prec f) (two-le_pos (prec f) (two f)) K))))
    (nearest-ge (w / 2 ^ k) (compare (w % 2 ^ k * 2) (2 ^ k)))))

fewer : (x y p : ℕ) → x ≤ y → x - p ≤ y - p
fewer x y p h = omega arith

room : (p j k : ℕ) → 0 < p → j < k → p + j ≤ p - 1 + k
room p j k P h = omega arith

positive : (j k : ℕ) → j < k → 0 < k
positive j k h = omega arith

pub near_mono : (f : Format) (w v : ℕ) → w ≤ v → near f w ≤ near f v
near_mono f w v h = go (eq-or-lt_of_le (fewer (size w) (size v) (prec f) (size_mono w v h)))
  where
    same : (k : ℕ) → closest w (2 ^ k) * 2 ^ k ≤ closest v (2 ^ k) * 2 ^ k
    same k = mul-le-mul_right (2 ^ k) (closest_mono w (2 ^ k) v (2 ^ k) (pow_pos k) (pow_pos k) (mul-le-mul_right (2 ^ k) h))

    go : (spare f w ≡ spare f v) ⊎ (spare f w < spare f v) → near f w ≤ near f v
    go (inl e) = unfold near in subst (λ (k : ℕ). closest w (2 ^ k) * 2 ^ k ≤ closest v (2 ^ spare f v) * 2 ^ spare f v) (sym e) (same (spare f v))
    go (inr l) = le_trans (near_ceiling f w) (le_trans (pow_mono (room (prec f) (spare f w) (spare f v) (two-le_pos (prec f) (two f)) l)) (near_floor f v (positive (spare f w) (spare f v) l)))

-- ---- where nothing changes
closest_one : (r : ℕ) → closest r 1 ≡ r
closest_one r = ap₂ (λ (q z : ℕ). nearest q (compare (z * 2) 1)) (div-one r) (mod-one r)

pub near_exact : (f : Format) (w q j : ℕ) → q < 2 ^ prec f → w ≡ q * 2 ^ j → near f w ≡ w
unfolding near
near_exact f w q j h e =
    let k = spare f w in
    let le : k ≤ j = fits (size w) (prec f) j (size-le w (prec f + j) (subst (λ (x : ℕ). x < 2 ^ (prec f + j)) (sym e) (shl_lt (prec f) j h))) in
    let r = q * 2 ^ (j - k) in
    let is : w ≡ r * 2 ^ k = e ∙ ap (λ (x : ℕ). q * x) (ap (λ (x : ℕ). 2 ^ x) (sym (back j k le)) ∙ pow-add 2 (j - k) k) ∙ sym (mul_assoc q (2 ^ (j - k)) (2 ^ k)) in
    ap (λ (z : ℕ). z * 2 ^ k) (closest_same w (2 ^ k) r 1 (pow_pos k) (pow_pos 0) (mul-one w ∙ is) ∙ closest_one r) ∙ sym is
  where
    fits : (z p l : ℕ) → z ≤ p + l → z - p ≤ l
    fits z p l h = omega arith

-- ---- how far off
closest_off : (a b : ℕ) → 0 < b → Near a (closest a b * b) b
closest_off a b B = by_order (λ o. Near a (nearest (a / b) o * b) b) (a % b * 2) b under tie over
  where
    q : ℕ
    q = a / b

    parts : a ≡ q * b + a % b
    parts = sym (div-add-mod' a b)

    under : a % b * 2 < b → Near a (q * b) b
    under h = record { not_above = omega (arith, parts); not_below_holds = omega (arith, parts) }

    over : b < a % b * 2 → Near a (suc q * b) b
    over h = record { not_above = omega (arith, parts, suc-mul q b); not_below_holds = omega (arith, parts, suc-mul q b, mod-lt a B) }

    at : (z : ℕ) → z < 2 → a % b * 2 ≡ b → Near a ((q + z) * b) b
    at zero l h = record { not_above = omega (arith, parts, add-mul q 0 b, zero-mul b); not_below_holds = omega (arith, parts, add-mul q 0 b, zero-mul b) }
    at (suc zero) l h = record { not_above = omega (arith, parts, add-mul q 1 b, one-mul b); not_below_holds = omega (arith, parts, add-mul q 1 b, one-mul b) }
    at (suc (suc z)) l h = absurd (omega arith)

    tie : a % b * 2 ≡ b → Near a ((q + q % 2) * b) b
    tie h = at (q % 2) (mod-lt q (pow_pos 1)) h

pub near_off : (f : Format) (w : ℕ) → Near w (near f w) (2 ^ spare f w)
unfolding near
near_off f w = closest_off w (2 ^ spare f w) (pow_pos (spare f w))

-- below 2 ^ (prec + j) at most j digits are dropped
pub near_within : (f : Format) (w j : ℕ) → w ≤ 2 ^ (prec f + j) → Near w (near f w) (2 ^ j)
near_within f w j h = go (eq-or-lt_of_le h)
  where
    fewer' : (z p : ℕ) → z ≤ p + j → z - p ≤ j
    fewer' z p h = omega arith

    wider : (u v : ℕ) → u ≤ v → Near w (near f w) u → Near w (near f w) v
    wider u v l n = record { not_above = omega (arith, n.not_above); not_below_holds = omega (arith, n.not_below_holds) }

    go : (w ≡ 2 ^ (prec f + j)) ⊎ (w < 2 ^ (prec f + j)) → Near w (near f w) (2 ^ j)
    go (inl e) = subst (λ (z : ℕ). Near w z (2 ^ j)) (sym (near_exact f w 1 (prec f + j) (lt_of_lt_of_le (lit< {m = 1} {n = 2 ^ 2} tt) (pow_mono (two f))) (e ∙ sym (one-mul (2 ^ (prec f + j)))))) (record { not_above = omega arith; not_below_holds = omega arith })
    go (inr l) = wider (2 ^ spare f w) (2 ^ j) (pow_mono (fewer' (size w) (prec f) (size-le w (prec f + j) l))) (near_off f w)
