-- Values from -c to c, and between which bounds their halves, sums and differences lie. Assumes nothing.
use mathlib.Core.Path.{◌≡◌, refl, sym, ap, subst, ◌∙◌}
use mathlib.Core.Bool.{Bool, true, false, cond, ◌&&◌}
use Prim.Native.Nat.{ℕ, ◌*◌}
use native.Mathlib.Omega.{arith}
use lib.Dec.{T}
use lib.IntN.{ℤ}
use lib.Ieee.{Float, nan, inf, fin, binary32, up, down, neg, add, sub, mul, round, lt, le, fits, is_nan, of_bits}
use lib.Ieee.Fits.{add-fits, sub-fits, mul-fits}
use lib.Ieee.Scale
use Rattle.lists.proofs.Bools.{both_true}
use Rattle.floats.specs.Arithmetic.{◌+₃₂◌, ◌-₃₂◌, ◌*₃₂◌, zero32, half, one, four, sixty_four}
use Rattle.floats.specs.Leaves.{negative, with_sign, maximum_number, clamp}
use Rattle.floats.specs.Values.{Alike, Number, Finite}
use Rattle.floats.proofs.Laws.Constants.{zero_finite, half_finite, one_finite, four_finite, sixty_four_finite, zero_number, one_number, sixty_four_number, half_not_below}
use Rattle.floats.proofs.Laws.MinMax.{sign_fits}
use Rattle.floats.proofs.Laws.Order.{lt→<, ≤→le, le_trans_f, le_numbers, lt_numbers, neg_number, number}
use Rattle.floats.proofs.Laws.Products.{round_self, mul_mono}
use Rattle.floats.proofs.Laws.Rounding.{finite_number, neg_finite, add_grows, sub_grows, finite_between}
use Rattle.floats.proofs.Laws.Signs.{alike_refl, alike_sym, add_neg_neg, sub_is_add, sub_neg, mul_neg_left}
use Rattle.floats.proofs.Laws.Zeros.{alike_le}
use Rattle.game.specs.declared.Side.{Side}
use Rattle.game.specs.declared.Side.TheVariants.{Home, Away}
use Rattle.game.specs.declared.SideMapping.{SideMapping}
use Rattle.game.specs.declared.SideMapping.TheVariants.{HomeDefendsLeftGoal, HomeDefendsRightGoal}
use Rattle.geometry.specs.Geometry.{side_to_sign}
use Rattle.refusals.specs.Refusals.{within, is_size, is_coordinate, is_radius}

pub record Under (c v : Float) : Type 0 where
  pub fit : T (fits binary32 v)
  pub lowest : le (neg c) v ≡ true
  pub highest : le v c ≡ true

module _ (c : Float) (h : Finite binary32 c) where
  pub under_finite : (v : Float) → Under c v → Finite binary32 v
  under_finite v u = finite_between binary32 (neg c) v c (neg_finite binary32 c h) u.fit h u.lowest u.highest

  pub half_under : (v : Float) → Under c v → Under (c *₃₂ half) (v *₃₂ half)
  half_under v u =
      record {
        fit = mul-fits binary32 v half;
        lowest = ap (λ (z : Float). le z (v *₃₂ half)) (sym (mul_neg_left binary32 c half)) ∙ mul_mono binary32 (neg c) v half (neg_finite binary32 c h) (under_finite v u) half_finite half_not_below u.lowest;
        highest = mul_mono binary32 v c half (under_finite v u) h half_finite half_not_below u.highest;
      }

module _ (a b : Float) (ha : Finite binary32 a) (hb : Finite binary32 b) (x y : Float) (ux : Under a x) (uy : Under b y) where
  fx : Finite binary32 x
  fx = under_finite a ha x ux

  fy : Finite binary32 y
  fy = under_finite b hb y uy

  -- the lower bound
  turned : (z : Float) → le (neg (a +₃₂ b)) z ≡ le (neg a +₃₂ neg b) z
  turned z = alike_le (neg (a +₃₂ b)) (neg a +₃₂ neg b) z z (alike_sym (neg a +₃₂ neg b) (neg (a +₃₂ b)) (add_neg_neg binary32 a b)) (alike_refl z)

  pub add_under : Under (a +₃₂ b) (x +₃₂ y)
  add_under =
      record {
        fit = add-fits binary32 x y;
        lowest = turned (x +₃₂ y) ∙ add_grows binary32 (neg a) x (neg b) y (neg_finite binary32 a ha) fx (neg_finite binary32 b hb) fy ux.lowest uy.lowest;
        highest = add_grows binary32 x a y b fx ha fy hb ux.highest uy.highest;
      }

  pub sub_under : Under (a +₃₂ b) (x -₃₂ y)
  sub_under =
      record {
        fit = sub-fits binary32 x y;
        lowest =
            turned (x -₃₂ y)
            ∙ ap (λ (z : Float). le z (x -₃₂ y)) (sym (sub_is_add binary32 (neg a) b))
            ∙ sub_grows binary32 (neg a) x b y (neg_finite binary32 a ha) fx hb fy ux.lowest uy.highest;
        highest = ap (le (x -₃₂ y)) (sym (sub_neg binary32 a b)) ∙ sub_grows binary32 x a y (neg b) fx ha fy (neg_finite binary32 b hb) ux.highest uy.lowest;
      }

-- ---- what is not refused
-- between bounds that are within 64 themselves
between : (lo v hi : Float) → T (fits binary32 v) → Number binary32 lo → Number binary32 hi → le (neg sixty_four) lo ≡ true → le hi sixty_four ≡ true → le lo v ≡ true → le v hi ≡ true → Under sixty_four v
between lo v hi q l h low high u w =
    let n = number binary32 v q (le_numbers lo v u).1 in
    record {
      fit = q;
      lowest = le_trans_f binary32 (neg sixty_four) lo v (neg_number binary32 sixty_four sixty_four_number) l n low u;
      highest = le_trans_f binary32 v hi sixty_four n h sixty_four_number w high;
    }

pub size_under : (v : Float) → T (fits binary32 v) → is_size v ≡ true → Under sixty_four v
size_under v q e = let r = both_true (le zero32 v) (le v sixty_four) e in between zero32 v sixty_four q zero_number sixty_four_number (unfold of_bits neg le in refl) (unfold of_bits le in refl) r.0 r.1

pub length_under : (v : Float) → T (fits binary32 v) → within four v sixty_four ≡ true → Under sixty_four v
length_under v q e = let r = both_true (le four v) (le v sixty_four) e in between four v sixty_four q (finite_number binary32 four four_finite) sixty_four_number (unfold of_bits neg le in refl) (unfold of_bits le in refl) r.0 r.1

pub line_under : (v : Float) → T (fits binary32 v) → within zero32 v one ≡ true → Under sixty_four v
line_under v q e = let r = both_true (le zero32 v) (le v one) e in between zero32 v one q zero_number one_number (unfold of_bits neg le in refl) (unfold of_bits le in refl) r.0 r.1

pub coordinate_under : (v : Float) → T (fits binary32 v) → is_coordinate v ≡ true → Under sixty_four v
coordinate_under v q e = let r = both_true (le (neg sixty_four) v) (le v sixty_four) e in record { fit = q; lowest = r.0; highest = r.1 }

pub radius_under : (v : Float) → T (fits binary32 v) → is_radius v ≡ true → Under sixty_four v
radius_under v q e =
    let r = both_true (lt zero32 v) (le v one) e in
    let n = number binary32 v q (lt_numbers zero32 v r.0).1 in
    between zero32 v one q zero_number one_number (unfold of_bits neg le in refl) (unfold of_bits le in refl) (≤→le binary32 zero32 v zero_number n (omega (arith, lt→< binary32 zero32 v zero_number n r.0))) r.1

-- ---- finite values
pub cond_finite : (b : Bool) (x y : Float) → Finite binary32 x → Finite binary32 y → Finite binary32 (cond b x y)
cond_finite true x y hx hy = hx
cond_finite false x y hx hy = hy

pub clamp_finite : (x lo hi : Float) → Finite binary32 x → Finite binary32 lo → Finite binary32 hi → Finite binary32 (clamp x lo hi)
unfolding clamp
clamp_finite x lo hi p q r = cond_finite (le lo hi) _ x (cond_finite (lt x lo) lo _ q (cond_finite (lt hi x) hi x r p)) p

pub max_finite : (x y : Float) → Finite binary32 x → Finite binary32 y → Finite binary32 (maximum_number x y)
unfolding maximum_number
max_finite x y p q =
    cond_finite (is_nan x) y _ q (cond_finite (is_nan y) x _ p (cond_finite (lt y x) x _ p (cond_finite (lt x y) y _ q (cond_finite (negative x) y x q p))))

pub sign_finite : (t : Bool) (x : Float) → Finite binary32 x → Finite binary32 (with_sign t x)
sign_finite t x h = record { fit = sign_fits binary32 t x h.fit; finite = go x h.finite }
  where
    go : (x : Float) → T (lib.Ieee.Scale.finite x) → T (lib.Ieee.Scale.finite (with_sign t x))
    go nan k = unfold with_sign in k
    go (inf s) k = unfold with_sign in k
    go (fin s m e) k = unfold with_sign in k

-- 1 times a value is that value
same : (s : Bool) (m : ℕ) (e : ℤ) → round binary32 s (1 * 1 * (m * up e)) (1 * down e) ≡ round binary32 s (m * up e) (down e)
same s m e = let p : 1 * 1 * (m * up e) ≡ m * up e = omega arith in let q : 1 * down e ≡ down e = omega arith in cc (p, q)

once : (x : Float) → Finite binary32 x → one *₃₂ x ≡ x
unfolding mul of_bits
once nan h = absurd h.finite
once (inf s) h = absurd h.finite
once (fin true m e) h = same true m e ∙ round_self binary32 true m e h.fit
once (fin false m e) h = same false m e ∙ round_self binary32 false m e h.fit

-- a side's sign is 1 or -1
pub signed_finite : (side : Side) (sides : SideMapping) (x : Float) → Finite binary32 x → Finite binary32 (side_to_sign side sides *₃₂ x)
signed_finite side sides x h = go side sides
  where
    plus : Finite binary32 (one *₃₂ x)
    plus = subst (Finite binary32) (sym (once x h)) h

    minus : Finite binary32 (neg one *₃₂ x)
    minus = subst (Finite binary32) (sym (mul_neg_left binary32 one x)) (neg_finite binary32 (one *₃₂ x) plus)

    go : (side : Side) (sides : SideMapping) → Finite binary32 (side_to_sign side sides *₃₂ x)
    go Home HomeDefendsLeftGoal = minus
    go Home HomeDefendsRightGoal = plus
    go Away HomeDefendsLeftGoal = plus
    go Away HomeDefendsRightGoal = minus
