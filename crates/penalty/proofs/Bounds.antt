-- With sizes that are accepted the candidates' bounds are in order, -1 lies between them, and nothing of what the candidates are asked for is refused: they are all tried. Assumes nothing.
use mathlib.Core.Path.{◌≡◌, refl, sym, ap, ap₂, subst, ◌∙◌}
use mathlib.Core.Bool.{Bool, true, false, not, cond, ◌&&◌, ◌||◌}
use mathlib.Core.List.{List, [], ◌∷◌}
use native.Mathlib.Omega.{arith}
use lib.Dec.{T}
use lib.Ieee.{Float, binary32, neg, add, lt, le, fits, is_nan, of_bits}
use Rattle.floats.specs.Arithmetic.{◌+₃₂◌, ◌-₃₂◌, ◌*₃₂◌, zero32, half, one, two, four, sixty_four, sixty_fourth}
use Rattle.floats.specs.Values.{Number, Finite}
use Rattle.floats.proofs.Laws.Constants.{zero_finite, one_finite, two_finite, sixty_four_finite, zero_number, one_number, sixty_four_number, sixty_fourth_number}
use Rattle.floats.proofs.Laws.Order.{lt→<, le→≤, ≤→le, ≤→nlt, le_trans_f, le_numbers, neg_number, neg_nan, number}
use Rattle.floats.proofs.Laws.Rounding.{finite_number, neg_finite, sub_number, add_number, add_grows, finite_between}
use Rattle.floats.proofs.Laws.Signs.{mul_neg_left, le_neg}
use Rattle.game.specs.declared.FieldDimensions.{FieldDimensions}
use Rattle.places.proofs.Bounds.{thirty_two, thirty_two_finite, half_least, half_most, half_is_finite}
use Rattle.tries.specs.Tries.{crossed, unfit, too_far, too_fine, candidates_to, candidates_of, first_candidate}
use Rattle.penalty.specs.Penalty.{start_of, lowest_of, highest_of, candidates_tried, chosen, team_place}
use Rattle.penalty.specs.Meant.{Chosen}
use Rattle.penalty.proofs.Sizes.{small_finite}
use Rattle.penalty.proofs.Meant.{is_chosen}

-- The sizes that the candidates are found by: the field is 4 to 64 long, its penalty mark up to 64 from the goal line, the player's radius up to 1 and above 0, and the distance
-- is not between 0 and 1/64. Each is a binary32, as every f32 is.
pub record CandidateSizes (f : FieldDimensions) (r d : Float) : Type 0 where
  pub length_fits : T (fits binary32 f.length)
  pub length_least : le four f.length ≡ true
  pub length_most : le f.length sixty_four ≡ true
  pub mark_fits : T (fits binary32 f.penalty_mark_distance)
  pub mark_least : le zero32 f.penalty_mark_distance ≡ true
  pub mark_most : le f.penalty_mark_distance sixty_four ≡ true
  pub radius_fits : T (fits binary32 r)
  pub radius_above : lt zero32 r ≡ true
  pub radius_most : le r one ≡ true
  pub distance_fits_holds : T (fits binary32 d)
  pub distance_taken : (le d zero32 || le sixty_fourth d) ≡ true

-- ---- constants
two_less_one_turned : neg two +₃₂ one ≡ neg one
unfolding add neg of_bits
two_less_one_turned = refl

thirty_two_and_zero : neg thirty_two +₃₂ zero32 ≡ neg thirty_two
unfolding add neg of_bits
thirty_two_and_zero = refl

thirty_two_near : le thirty_two sixty_four ≡ true
unfolding le of_bits
thirty_two_near = refl

one_near : le one sixty_four ≡ true
unfolding le of_bits
one_near = refl

zero_turned_near : le (neg zero32) sixty_four ≡ true
unfolding le neg of_bits
zero_turned_near = refl

one_turned_near : le (neg one) sixty_four ≡ true
unfolding le neg of_bits
one_turned_near = refl

thirty_two_number : Number binary32 thirty_two
thirty_two_number = finite_number binary32 thirty_two thirty_two_finite

-- ---- tests that all fail
unset : (b : Bool) → T (not b) → b ≡ false
unset true h = absurd h
unset false h = refl

none : {a b c : Bool} → a ≡ false → b ≡ false → c ≡ false → (a || b || c) ≡ false
none p q r = cc (p, q, r)

none_of_five : {a b c d e : Bool} → a ≡ false → b ≡ false → c ≡ false → d ≡ false → e ≡ false → (a || b || c || d || e) ≡ false
none_of_five p q r s t = cc (p, q, r, s, t)

-- ---- what is not refused
-- a value from -64 to 64
near : (v : Float) → Number binary32 v → le (neg sixty_four) v ≡ true → le v sixty_four ≡ true → too_far v ≡ false
near v n l h =
    let m = neg_number binary32 sixty_four sixty_four_number in
    ap₂ (λ (a b : Bool). a || b) (≤→nlt binary32 v (neg sixty_four) n m (le→≤ binary32 (neg sixty_four) v m n l)) (≤→nlt binary32 sixty_four v sixty_four_number n (le→≤ binary32 v sixty_four n sixty_four_number h))

-- a distance that is not between 0 and 1/64
taken : (d : Float) → T (fits binary32 d) → (le d zero32 || le sixty_fourth d) ≡ true → (is_nan d ≡ false) × (too_fine d ≡ false)
taken d q t = go (le d zero32) refl t
  where
    no : (a : Bool) → (a && false) ≡ false
    no true = refl
    no false = refl

    go : (b : Bool) → le d zero32 ≡ b → (b || le sixty_fourth d) ≡ true → (is_nan d ≡ false) × (too_fine d ≡ false)
    go true e k =
        let n = (le_numbers d zero32 e).0 in
        let N = number binary32 d q n in
        (n, ap (λ (b : Bool). b && lt d sixty_fourth) (≤→nlt binary32 zero32 d zero_number N (le→≤ binary32 d zero32 N zero_number e)))
    go false e k =
        let n = (le_numbers sixty_fourth d k).1 in
        let N = number binary32 d q n in
        (n, ap (λ (b : Bool). lt zero32 d && b) (≤→nlt binary32 d sixty_fourth N sixty_fourth_number (le→≤ binary32 sixty_fourth d sixty_fourth_number N k)) ∙ no (lt zero32 d))

-- of one of two lists with a candidate each the one that is meant is chosen
one_of_two_lists : (d : Float) (clear : Float → Float) (b : Bool) (x : Float) (xs : List Float) (y : Float) (ys : List Float) → Chosen d clear (cond b (x ∷ xs) (y ∷ ys)) (chosen d clear (cond b (x ∷ xs) (y ∷ ys)))
one_of_two_lists d clear true x xs y ys = is_chosen d clear x xs
one_of_two_lists d clear false x xs y ys = is_chosen d clear y ys

module _ (f : FieldDimensions) (r d : Float) (s : CandidateSizes f r d) where
  radius_finite : Finite binary32 r
  radius_finite = small_finite r s.radius_fits s.radius_above s.radius_most

  radius_least : le zero32 r ≡ true
  radius_least = let n = finite_number binary32 r radius_finite in ≤→le binary32 zero32 r zero_number n (omega (arith, lt→< binary32 zero32 r zero_number n s.radius_above))

  -- ---- the lower bound: from -32 to -1
  half_length : Float
  half_length = f.length *₃₂ half

  half_length_finite : Finite binary32 half_length
  unfolding half_length
  half_length_finite = half_is_finite f.length s.length_fits s.length_least s.length_most

  lowest_is : lowest_of f r ≡ neg half_length +₃₂ r
  unfolding half_length
  lowest_is = ap (λ (v : Float). v +₃₂ r) (mul_neg_left binary32 f.length half)

  lowest_number : Number binary32 (lowest_of f r)
  lowest_number = subst (Number binary32) (sym lowest_is) (add_number binary32 (neg half_length) r (neg_finite binary32 half_length half_length_finite) radius_finite)

  pub lowest_most : le (lowest_of f r) (neg one) ≡ true
  unfolding half_length
  lowest_most =
      ap₂ le lowest_is (sym two_less_one_turned)
      ∙ add_grows binary32 (neg half_length) (neg two) r one (neg_finite binary32 half_length half_length_finite) (neg_finite binary32 two two_finite) radius_finite one_finite
      (le_neg two half_length ∙ half_least f.length s.length_fits s.length_least s.length_most) s.radius_most

  lowest_least : le (neg thirty_two) (lowest_of f r) ≡ true
  unfolding half_length
  lowest_least =
      ap₂ le (sym thirty_two_and_zero) lowest_is
      ∙ add_grows binary32 (neg thirty_two) (neg half_length) zero32 r (neg_finite binary32 thirty_two thirty_two_finite) (neg_finite binary32 half_length half_length_finite) zero_finite radius_finite
      (le_neg half_length thirty_two ∙ half_most f.length s.length_fits s.length_least s.length_most) radius_least

  lowest_near : too_far (lowest_of f r) ≡ false
  lowest_near =
      let m = neg_number binary32 one one_number in
      near (lowest_of f r) lowest_number
      (le_trans_f binary32 (neg sixty_four) (neg thirty_two) (lowest_of f r) (neg_number binary32 sixty_four sixty_four_number) (neg_number binary32 thirty_two thirty_two_number) lowest_number (le_neg thirty_two sixty_four ∙ thirty_two_near) lowest_least)
      (le_trans_f binary32 (lowest_of f r) (neg one) sixty_four lowest_number m sixty_four_number lowest_most one_turned_near)

  -- ---- the upper bound: from -1 to 0
  highest_number : Number binary32 (highest_of r)
  highest_number = neg_number binary32 r (finite_number binary32 r radius_finite)

  pub highest_least : le (neg one) (highest_of r) ≡ true
  highest_least = le_neg r one ∙ s.radius_most

  highest_near : too_far (highest_of r) ≡ false
  highest_near =
      let m = neg_number binary32 one one_number in
      let z = neg_number binary32 zero32 zero_number in
      near (highest_of r) highest_number
      (le_trans_f binary32 (neg sixty_four) (neg one) (highest_of r) (neg_number binary32 sixty_four sixty_four_number) m highest_number (le_neg one sixty_four ∙ one_near) highest_least)
      (le_trans_f binary32 (highest_of r) (neg zero32) sixty_four highest_number z sixty_four_number (le_neg zero32 r ∙ radius_least) zero_turned_near)

  -- ---- together
  pub bounds_in_order : le (lowest_of f r) (highest_of r) ≡ true
  bounds_in_order = le_trans_f binary32 (lowest_of f r) (neg one) (highest_of r) lowest_number (neg_number binary32 one one_number) highest_number lowest_most highest_least

  pub never_crossed : crossed (lowest_of f r) (highest_of r) ≡ false
  unfolding crossed
  never_crossed =
      let n = le_numbers (lowest_of f r) (highest_of r) bounds_in_order in
      none n.0 n.1 (≤→nlt binary32 (highest_of r) (lowest_of f r) highest_number lowest_number (le→≤ binary32 (lowest_of f r) (highest_of r) lowest_number highest_number bounds_in_order))

  start_no_nan : is_nan (start_of f) ≡ false
  unfolding half_length
  start_no_nan = neg_nan (half_length -₃₂ f.penalty_mark_distance) ∙ unset (is_nan (half_length -₃₂ f.penalty_mark_distance)) (sub_number binary32 half_length f.penalty_mark_distance half_length_finite mark_finite).no_nan
    where
      mark_finite : Finite binary32 f.penalty_mark_distance
      mark_finite = finite_between binary32 zero32 f.penalty_mark_distance sixty_four zero_finite s.mark_fits sixty_four_finite s.mark_least s.mark_most

  pub never_unfit : unfit (start_of f) (lowest_of f r) (highest_of r) d ≡ false
  unfolding unfit
  never_unfit =
      let t = taken d s.distance_fits_holds s.distance_taken in
      ap (λ (b : Bool). not b && (is_nan (start_of f) || too_far (lowest_of f r) || too_far (highest_of r) || is_nan d || too_fine d)) never_crossed
      ∙ none_of_five start_no_nan lowest_near highest_near t.0 t.1

  -- so the candidates that are tried are all of them
  pub all_tried : candidates_tried (start_of f) (lowest_of f r) (highest_of r) d ≡ candidates_of (start_of f) (lowest_of f r) (highest_of r) d
  unfolding candidates_tried
  all_tried = ap (λ (b : Bool). cond b (first_candidate (start_of f) (lowest_of f r) (highest_of r) ∷ []) (candidates_of (start_of f) (lowest_of f r) (highest_of r) d)) never_unfit

  -- and the place is chosen among them
  pub place_among_all : (clear : Float → Float) → team_place f r d clear ≡ chosen d clear (candidates_of (start_of f) (lowest_of f r) (highest_of r) d)
  unfolding team_place
  place_among_all clear = ap (chosen d clear) all_tried

  -- as is meant: the first of them that reaches the distance, or the last of those with greatest clearance
  pub place_meant : (clear : Float → Float) → Chosen d clear (candidates_of (start_of f) (lowest_of f r) (highest_of r) d) (team_place f r d clear)
  unfolding candidates_to
  place_meant clear = subst (Chosen d clear (candidates_of (start_of f) (lowest_of f r) (highest_of r) d)) (sym (place_among_all clear)) (one_of_two_lists d clear (crossed (lowest_of f r) (highest_of r)) _ [] _ _)
