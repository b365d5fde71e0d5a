-- The places of `penalty_placement_candidates`, in binary32, each operation rounded once: the whole list first, then the same one at a time. Definitions only.
use Rattle.std.specs.Prelude.{Bool, cond, not, ◌&&◌, ◌||◌, List, [], ◌∷◌, ℕ, suc, ◌*◌, ◌/◌, ◌%◌, eqb, Float}
use Rattle.std.specs.Float.Ieee.{neg, is_nan, lt, le}
use Rattle.lists.specs.Counting.{count_to}
use Rattle.lists.specs.Gather.{flat_to, only_if}
use Rattle.floats.specs.Leaves.{clamp}
use Rattle.floats.specs.Arithmetic.{◌+₃₂◌, ◌*₃₂◌, zero32, half, sixty_four, sixty_fourth}
use Rattle.spacing.specs.Spacing.{down_by, up_by, places_at}

-- a bound is a NaN, or min is above max
unfoldable pub crossed : Float → Float → Bool
crossed min max = is_nan min || is_nan max || lt max min

-- halfway between the bounds
abbrev pub middle : Float → Float → Float
middle min max = (min +₃₂ max) *₃₂ half

-- the candidates with k up to n: only the middle of bounds that are crossed; else the clamped start, and where step is not at most 0, for k = 1, 2, .., n
-- those of start - k * step and start + k * step that lie within the bounds, the lower before the upper
unfoldable pub candidates_to : ℕ → Float → Float → Float → Float → List Float
candidates_to n start min max step =
    cond (crossed min max) (middle min max ∷ []) (clamp start min max ∷ cond (le step zero32) [] (flat_to n (places_at (clamp start min max) min max step)))

-- the candidates: no k from 8193 to 2^24 adds one, and both places of 8193 are out of bounds, at which the Rust's loop ends (`candidates_end`, `break_comes`)
abbrev pub candidates_of : Float → Float → Float → Float → List Float
candidates_of start min max step = candidates_to 8192 start min max step

-- ---- floats for which there would be too many, or no end of them: refusal 5
-- not from -64 to 64
abbrev pub too_far : Float → Bool
too_far v = lt v (neg sixty_four) || lt sixty_four v

-- above 0 and below 1/64
abbrev pub too_fine : Float → Bool
too_fine step = lt zero32 step && lt step sixty_fourth

-- bounds that are not crossed, with a start that is a NaN, a bound too far out, or a step that is a NaN or too fine
unfoldable pub unfit : Float → Float → Float → Float → Bool
unfit start min max step = not (crossed min max) && (is_nan start || too_far min || too_far max || is_nan step || too_fine step)

-- ---- the same list as a walk
-- the middle of crossed bounds, else the clamped start
unfoldable pub first_candidate : Float → Float → Float → Float
first_candidate start min max = cond (crossed min max) (middle min max) (clamp start min max)

-- there are candidates to look for after the first
unfoldable pub walks : Float → Float → Float → Float → Bool
walks start min max step = not (crossed min max) && not (unfit start min max step) && not (le step zero32)

-- k = i + 1 has a place within its bound
abbrev pub has_place : Float → Float → Float → Float → ℕ → Bool
has_place first min max step i = le min (down_by first step (suc i)) || le (up_by first step (suc i)) max

-- the turns from a first candidate: one for each k up to 8192 that has a place
abbrev pub turns_from : Float → Float → Float → Float → ℕ
turns_from first min max step = count_to 8192 (has_place first min max step)

-- the turns; none where there is only the first candidate, and where refusal 5 applies
unfoldable pub turns_of : Float → Float → Float → Float → ℕ
turns_of start min max step = cond (walks start min max step) (turns_from (first_candidate start min max) min max step) 0

-- the candidates after the first
abbrev pub walked : Float → Float → Float → Float → List Float
walked start min max step = flat_to (turns_of start min max step) (places_at (first_candidate start min max) min max step)

-- ---- and with one place at a time, for a caller that has no memory to lend: tries j = 0, 1, .., two for each turn, of which the even ones go down
-- the tries
abbrev pub tries_of : Float → Float → Float → Float → ℕ
tries_of start min max step = 2 * turns_of start min max step

-- the place of the try j: k is j / 2 + 1
unfoldable pub candidate_at : Float → Float → ℕ → Float
candidate_at first step j = cond (eqb (j % 2) 0) (down_by first step (suc (j / 2))) (up_by first step (suc (j / 2)))

-- whether the place x of the try j lies within the bound on its side
unfoldable pub is_candidate : Float → Float → ℕ → Float → Bool
is_candidate min max j x = cond (eqb (j % 2) 0) (le min x) (le x max)

-- what the try j adds: its place, where that is a candidate
abbrev pub tried_at : Float → Float → Float → Float → ℕ → List Float
tried_at first min max step j = only_if (is_candidate min max j (candidate_at first step j)) (candidate_at first step j)
