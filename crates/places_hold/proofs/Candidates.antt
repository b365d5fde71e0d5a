-- The candidates for a penalised player's place are finite, where nothing of what they are asked for is refused. Assumes nothing.
use mathlib.Core.Path.{◌≡◌, refl, sym, ap, subst, ◌∙◌}
use mathlib.Core.Bool.{Bool, true, false, cond, true≢false}
use mathlib.Core.List.{List, [], ◌∷◌, ◌++◌}
use Prim.Native.Nat.{ℕ, zero, suc, ◌≤◌, ◌<◌}
use native.Mathlib.Nat.{le_of_eq, le_trans, le-add_right}
use native.Mathlib.Omega.{arith}
use lib.Ieee.{Float, nan, binary32, neg, add, sub, le, of_bits}
use lib.Ieee.Fits.{add-fits, sub-fits}
use lib.ListN.{length, get_or}
use Rattle.lists.specs.Gather.{flat_to, only_if}
use Rattle.floats.specs.Arithmetic.{◌+₃₂◌, ◌-₃₂◌, zero32, sixty_four}
use Rattle.floats.specs.Leaves.{clamp}
use Rattle.floats.specs.Height.{height, mid}
use Rattle.floats.specs.Values.{pos_zero, Number, Finite, Within}
use Rattle.floats.proofs.Laws.Constants.{zero_finite, sixty_four_finite, zero_number}
use Rattle.floats.proofs.Laws.Order.{≤→le, neg_number, pos_zero_height}
use Rattle.floats.proofs.Laws.Rounding.{finite_number, any_difference, sub_anti, finite_between}
use Rattle.floats.proofs.Laws.Signs.{sub_neg, le_neg}
use Rattle.floats.proofs.Laws.Within.{finite_within}
use Rattle.floats.proofs.Laws.Zeros.{zero_plain}
use Rattle.spacing.specs.Spacing.{Step, offset, down_by, up_by, places_at}
use Rattle.spacing.proofs.Ticks.{tick, M, H, offset_low, offset_number}
use Rattle.tries.specs.Tries.{crossed, unfit, candidates_of}
use Rattle.tries.proofs.CandidatesList.{Walkable, Held, Kind, only_middle, only_start, walk, kind, list_by, list_walk}
use Rattle.penalty.specs.Meant.{IsAt, Chosen, by_distance, by_clearance}
use Rattle.places_hold.proofs.Under.{Under, under_finite, sub_under, clamp_finite}

-- ---- lists of finite values
pub data AllFinite : List Float → Type 0 where
  no_value : AllFinite []
  one_value : {x : Float} {l : List Float} → Finite binary32 x → AllFinite l → AllFinite (x ∷ l)

all_append : {k l : List Float} → AllFinite k → AllFinite l → AllFinite (k ++ l)
all_append no_value hl = hl
all_append (one_value h hk) hl = one_value h (all_append hk hl)

all_only : (b : Bool) (x : Float) → (b ≡ true → Finite binary32 x) → AllFinite (only_if b x)
all_only true x h = one_value (h refl) no_value
all_only false x h = no_value

all_at : {l : List Float} → AllFinite l → (i : ℕ) → i < length l → Finite binary32 (get_or l i nan)
all_at no_value i k = absurd (omega arith)
all_at (one_value h hs) zero k = h
all_at (one_value h hs) (suc i) k = all_at hs i (omega arith)

-- the one that is chosen is one of them
pub chosen_finite : (d : Float) (clear : Float → Float) (l : List Float) (x : Float) → AllFinite l → Chosen d clear l x → Finite binary32 x
chosen_finite d clear l x all c = go c
  where
    at : (i : ℕ) → IsAt l i x → Finite binary32 x
    at i k = subst (Finite binary32) k.there (all_at all i k.inside)

    go : Chosen d clear l x → Finite binary32 x
    go (by_distance f) = at f.i f.at
    go (by_clearance n g) = at g.i g.at

-- ---- places at so many steps
module _ (start step : Float) (k : ℕ) (w : Within start) (s : Step step) (z : 0 < k) (h : k < 16777216) where
  far : Number binary32 (offset step k)
  far = offset_number step k s z h

  not_below_holds : le zero32 (offset step k) ≡ true
  not_below_holds =
      ≤→le binary32 zero32 (offset step k) zero_number far
      (le_trans (le_of_eq (ap (height binary32) zero_plain ∙ pos_zero_height binary32)) (unfold M H in le_trans (le-add_right M _) (offset_low step k s z h)))

  -- the start less a zero of either sign, which is the start but for the sign of a zero
  still : (o : Float) → Under sixty_four o → Finite binary32 (start -₃₂ o)
  still o u =
      under_finite (sixty_four +₃₂ sixty_four) (record { fit = add-fits binary32 sixty_four sixty_four; finite = unfold add of_bits in tt }) (start -₃₂ o)
      (sub_under sixty_four sixty_four sixty_four_finite sixty_four_finite start o (record { fit = w.number.fit; lowest = w.lowest; highest = w.highest }) u)

  zero_under : Under sixty_four zero32
  zero_under = record { fit = zero_number.fit; lowest = unfold neg of_bits le in refl; highest = unfold of_bits le in refl }

  minus_under : Under sixty_four (neg zero32)
  minus_under = record { fit = (neg_number binary32 zero32 zero_number).fit; lowest = unfold neg of_bits le in refl; highest = unfold neg of_bits le in refl }

  down_finite : (low : Float) → Within low → le low (down_by start step k) ≡ true → Finite binary32 (down_by start step k)
  down_finite low l e =
      let top = still zero32 zero_under in
      finite_between binary32 low (down_by start step k) (start -₃₂ zero32) (finite_within low l) (sub-fits binary32 start (offset step k)) top e
      (sub_anti binary32 start zero32 (offset step k) w.number zero_number far (finite_number binary32 (start -₃₂ zero32) top).no_nan (any_difference binary32 start (offset step k) (finite_within start w) far).no_nan not_below_holds)

  up_finite : (high : Float) → Within high → le (up_by start step k) high ≡ true → Finite binary32 (up_by start step k)
  up_finite high l e =
      let n = neg_number binary32 (offset step k) far in
      let bottom = still (neg zero32) minus_under in
      let up : start -₃₂ neg (offset step k) ≡ up_by start step k = sub_neg binary32 start (offset step k) in
      finite_between binary32 (start -₃₂ neg zero32) (up_by start step k) high bottom (add-fits binary32 start (offset step k)) (finite_within high l)
      (ap (le (start -₃₂ neg zero32)) (sym up)
      ∙ sub_anti binary32 start (neg (offset step k)) (neg zero32) w.number n (neg_number binary32 zero32 zero_number) (any_difference binary32 start (neg (offset step k)) (finite_within start w) n).no_nan (finite_number binary32 (start -₃₂ neg zero32) bottom).no_nan
      (le_neg zero32 (offset step k) ∙ not_below_holds))
      e

-- ---- the candidates
places_finite : (first min max step : Float) → Within first → Within min → Within max → Step step → (n : ℕ) → n ≤ 8192 → AllFinite (flat_to n (places_at first min max step))
unfolding flat_to
places_finite first min max step f l u s zero h = no_value
places_finite first min max step f l u s (suc i) h =
    let small : suc i < 16777216 = omega arith in
    let some : 0 < suc i = omega arith in
    all_append (places_finite first min max step f l u s i (omega arith))
    (all_append (all_only (le min (down_by first step (suc i))) (down_by first step (suc i)) (down_finite first step (suc i) f s some small min l))
    (all_only (le (up_by first step (suc i)) max) (up_by first step (suc i)) (up_finite first step (suc i) f s some small max u)))

module _ (start min max step : Float) (held : Held start min max step) (fs : Finite binary32 start) (fl : Finite binary32 min) (fu : Finite binary32 max) where
  pub candidates_finite : crossed min max ≡ false → unfit start min max step ≡ false → AllFinite (candidates_of start min max step)
  candidates_finite c u = go (kind start min max step held u)
    where
      first : Finite binary32 (clamp start min max)
      first = clamp_finite start min max fs fl fu

      go : Kind start min max step held → AllFinite (candidates_of start min max step)
      go (only_middle m) = absurd (true≢false (sym m ∙ c))
      go (only_start o z) = subst AllFinite (sym (list_by start min max step held 8192 true o z)) (one_value first no_value)
      go (walk w) = subst AllFinite (sym (list_walk start min max step held 8192 w)) (one_value first (places_finite (clamp start min max) min max step w.first w.low w.high w.stride 8192 (omega arith)))
