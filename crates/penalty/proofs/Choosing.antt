-- The walk over the candidates takes the first that reaches the distance, otherwise the last of those with the most space. Assumes nothing.
use mathlib.Core.Path.{◌≡◌, refl, sym, ap, ◌∙◌}
use mathlib.Core.Bool.{Bool, true, false, not, ◌&&◌, cond}
use mathlib.Core.List.{List, [], ◌∷◌, ◌++◌}
use Prim.Native.Nat.{ℕ, zero, suc, ◌*◌}
use lib.Dec.{T}
use lib.Ieee.{Float, binary32, fits, le}
use lib.Ieee.Fits.{neg-fits, add-fits, sub-fits}
use Rattle.lists.specs.Fold.{fold_to}
use Rattle.lists.specs.Gather.{flat_to, only_if}
use Rattle.floats.specs.Leaves.{total_order}
use Rattle.floats.specs.Arithmetic.{zero32}
use Rattle.game.specs.declared.FieldDimensions.{FieldDimensions}
use Rattle.tries.specs.Tries.{crossed, unfit, walks, candidates_of, first_candidate, candidate_at, is_candidate, tries_of, tried_at}
use Rattle.tries.proofs.CandidatesList.{Held, no_walk_told, candidates_by_tries}
use Rattle.clearance.specs.Clearance.{Spot}
use Rattle.penalty.specs.declared.Choice.{Choice}
use Rattle.penalty.specs.declared.Search.{Search}
use Rattle.penalty.specs.Penalty.{not_below, first_reaching, if_enough, last_greatest, later_greater, or_else, chosen, candidates_tried, start_of, lowest_of, highest_of, team_place, clear_from}
use Rattle.penalty.specs.Walk.{considered, consider, clear_at, after_try}

-- the choice after each of a list
abbrev after_all : Float → (Float → Float) → Choice → List Float → Choice
after_all d clear c [] = c
after_all d clear c (x ∷ xs) = after_all d clear (considered c d x (clear x)) xs

after_append : (d : Float) (clear : Float → Float) (c : Choice) (l m : List Float) → after_all d clear c (l ++ m) ≡ after_all d clear (after_all d clear c l) m
after_append d clear c [] m = refl
after_append d clear c (x ∷ l) m = after_append d clear (considered c d x (clear x)) l m

-- the tries, a list at a time
walk_after : (s : Search) (spots : List Spot) (c : Choice) (m : ℕ)
    → fold_to m (after_try s spots) c ≡ after_all s.distance (clear_at s spots) c (flat_to m (tried_at s.first s.min s.max s.distance))
unfolding fold_to flat_to
walk_after s spots c zero = refl
walk_after s spots c (suc m) =
    ap (after_try s spots m) (walk_after s spots c m)
    ∙ one (after_all s.distance (clear_at s spots) c (flat_to m f))
    ∙ sym (after_append s.distance (clear_at s spots) c (flat_to m f) (f m))
  where
    f : ℕ → List Float
    f = tried_at s.first s.min s.max s.distance

    one : (z : Choice) → after_try s spots m z ≡ after_all s.distance (clear_at s spots) z (f m)
    one z = unfold after_try in go (is_candidate s.min s.max m (candidate_at s.first s.distance m))
      where
        go : (b : Bool) → cond b (consider s spots (candidate_at s.first s.distance m) z) z ≡ after_all s.distance (clear_at s spots) z (only_if b (candidate_at s.first s.distance m))
        go true = refl
        go false = refl

-- where the distance was reached, nothing changes
stays : (d : Float) (clear : Float → Float) (c : Choice) (xs : List Float) → c.reached ≡ true → after_all d clear c xs ≡ c
stays d clear c [] h = refl
stays d clear c (x ∷ xs) h = ap (λ (z : Choice). after_all d clear z xs) same ∙ stays d clear c xs h
  where
    same : considered c d x (clear x) ≡ c
    same = unfold considered in simp h

-- where it was not
takes : (d : Float) (clear : Float → Float) (c : Choice) (xs : List Float) → c.reached ≡ false → c.clearance ≡ clear c.x → (after_all d clear c xs).x ≡ or_else (first_reaching d clear xs) (last_greatest clear c.x xs)
takes d clear c [] h e = refl
takes d clear c (x ∷ xs) h e = go (le d (clear x)) (not_below (total_order (clear x) (clear c.x))) refl refl (λ z. takes d clear z xs)
  where
    step : considered c d x (clear x) ≡ cond (le d (clear x)) (record { reached = true; x = x; clearance = clear x }) (cond (not_below (total_order (clear x) (clear c.x))) (record { reached = false; x = x; clearance = clear x }) c)
    step = unfold considered in simp (h, e)

    go : (a b : Bool) → le d (clear x) ≡ a → not_below (total_order (clear x) (clear c.x)) ≡ b
        → ((z : Choice) → z.reached ≡ false → z.clearance ≡ clear z.x → (after_all d clear z xs).x ≡ or_else (first_reaching d clear xs) (last_greatest clear z.x xs))
        → (after_all d clear (considered c d x (clear x)) xs).x ≡ or_else (if_enough (le d (clear x)) x (first_reaching d clear xs)) (last_greatest clear (later_greater clear c.x x) xs)
    go true b p q ih = simp (step, p) (ap (λ (z : Choice). z.x) (stays d clear (record { reached = true; x = x; clearance = clear x }) xs refl))
    go false true p q ih = simp (step, p, q) (ih (record { reached = false; x = x; clearance = clear x }) refl refl)
    go false false p q ih = simp (step, p, q) (ih c h e)

-- the whole walk, from the first candidate
pub walk_chooses : (s : Search) (spots : List Spot) (c : Float) (r : Bool) (m : ℕ) → c ≡ clear_at s spots s.first → r ≡ le s.distance c
    → (fold_to m (after_try s spots) (record { reached = r; x = s.first; clearance = c })).x ≡ chosen s.distance (clear_at s spots) (s.first ∷ flat_to m (tried_at s.first s.min s.max s.distance))
unfolding chosen
walk_chooses s spots c r m e t = ap (λ (z : Choice). z.x) (walk_after s spots (record { reached = r; x = s.first; clearance = c }) m) ∙ go r refl
  where
    xs : List Float
    xs = flat_to m (tried_at s.first s.min s.max s.distance)

    d : Float
    d = s.distance

    clear : Float → Float
    clear = clear_at s spots

    test : le d (clear s.first) ≡ r
    test = sym (t ∙ ap (le d) e)

    go : (b : Bool) → r ≡ b → (after_all d clear (record { reached = r; x = s.first; clearance = c }) xs).x ≡ or_else (if_enough (le d (clear s.first)) s.first (first_reaching d clear xs)) (last_greatest clear s.first xs)
    go true h = ap (λ (z : Choice). z.x) (stays d clear (record { reached = r; x = s.first; clearance = c }) xs h) ∙ sym (ap (λ (b : Bool). or_else (if_enough b s.first (first_reaching d clear xs)) (last_greatest clear s.first xs)) (test ∙ h))
    go false h = takes d clear (record { reached = r; x = s.first; clearance = c }) xs h e ∙ sym (ap (λ (b : Bool). or_else (if_enough b s.first (first_reaching d clear xs)) (last_greatest clear s.first xs)) (test ∙ h))

-- the candidates that are tried: the first, then those of the tries
pub tried_walked : (start min max step : Float) → Held start min max step → candidates_tried start min max step ≡ first_candidate start min max ∷ flat_to (tries_of start min max step) (tried_at (first_candidate start min max) min max step)
unfolding candidates_tried
tried_walked start min max step f = go (unfit start min max step) refl
  where
    first : Float
    first = first_candidate start min max

    idle : unfit start min max step ≡ true → walks start min max step ≡ false
    idle u = unfold walks in ap (λ (b : Bool). not (crossed min max) && not b && not (le step zero32)) u ∙ none (not (crossed min max))
      where
        none : (a : Bool) → (a && false && not (le step zero32)) ≡ false
        none true = refl
        none false = refl

    empty : flat_to (2 * 0) (tried_at first min max step) ≡ []
    empty = unfold flat_to in refl

    go : (b : Bool) → unfit start min max step ≡ b → cond b (first ∷ []) (candidates_of start min max step) ≡ first ∷ flat_to (tries_of start min max step) (tried_at first min max step)
    go true u = ap (λ (l : List Float). first ∷ l) (sym (ap (λ (n : ℕ). flat_to (2 * n) (tried_at first min max step)) (sym (no_walk_told start min max step f (idle u)).0) ∙ empty))
    go false u = candidates_by_tries start min max step f u

-- the place, from what the calls tell
pub place_told : (f : FieldDimensions) (r d sign y first c : Float) (m : ℕ) (spots : List Spot) (taken : Choice) → T (fits binary32 d)
    → first ≡ first_candidate (start_of f) (lowest_of f r) (highest_of r) → m ≡ tries_of (start_of f) (lowest_of f r) (highest_of r) d → c ≡ clear_from sign y spots first
    → T (fits binary32 r)
    → taken ≡ fold_to m (after_try (record { first = first; min = lowest_of f r; max = highest_of r; distance = d; sign = sign; y = y }) spots) (record { reached = le d c; x = first; clearance = c })
    → taken.x ≡ team_place f r d (clear_from sign y spots)
unfolding team_place
place_told f r d sign y first c m spots taken h e t k g w =
    ap (λ (z : Choice). z.x) w
    ∙ walk_chooses (record { first = first; min = min; max = max; distance = d; sign = sign; y = y }) spots c (le d c) m k refl
    ∙ ap (λ (n : ℕ). chosen d clear (first ∷ flat_to n (tried_at first min max d))) t
    ∙ ap (λ (v : Float). chosen d clear (v ∷ flat_to (tries_of start min max d) (tried_at v min max d))) e
    ∙ ap (chosen d clear) (sym (tried_walked start min max d (record { fits_start = neg-fits binary32 _ (sub-fits binary32 _ _); fits_min = add-fits binary32 _ _; fits_max = neg-fits binary32 r g; fits_step = h })))
  where
    start : Float
    start = start_of f

    min : Float
    min = lowest_of f r

    max : Float
    max = highest_of r

    clear : Float → Float
    clear = clear_from sign y spots
