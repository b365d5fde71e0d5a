-- What `penalty_placement_candidates` writes into a lent list, and when it refuses. Definitions only.
use Rattle.std.specs.Prelude.{Bool, cond, not, List, [], ◌∷◌, ℕ, eqb, ltb, length, Float}
use Rattle.lists.specs.Refusals.{Requirement, first_refusal}
use Rattle.tries.specs.Tries.{candidates_of, unfit}

-- the list needs more places than the len lent ones
abbrev pub too_long : Float → Float → Float → Float → ℕ → Bool
too_long start min max step len = ltb len (length (candidates_of start min max step))

-- what must hold, in this order: the floats are not unfit, and the list is not too long
abbrev pub requirements : Bool → Bool → List Requirement
requirements bad long = record { holds = not bad; number = 5 } ∷ record { holds = not long; number = 6 } ∷ []

-- the refusal's number, or 0 for none
unfoldable pub refusal_of : Float → Float → Float → Float → ℕ → ℕ
refusal_of start min max step len = first_refusal (requirements (unfit start min max step) (too_long start min max step len))

-- what is written into len lent places: the candidates, or nothing where they are refused
unfoldable pub answer_of : Float → Float → Float → Float → ℕ → List Float
answer_of start min max step len = cond (eqb (refusal_of start min max step len) 0) (candidates_of start min max step) []
