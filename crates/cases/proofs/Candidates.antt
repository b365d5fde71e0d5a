-- Cases of the candidates, evaluated by the definitions. A list that the definition makes of 8192 turns is that of the few turns before the `break`. Assumes nothing.
use mathlib.Core.Path.{◌≡◌, refl, ap₂, ◌∙◌}
use mathlib.Core.Bool.{Bool, true, false, cond}
use mathlib.Core.List.{List, [], ◌∷◌}
use Prim.Native.Nat.{ℕ}
use native.Mathlib.Omega.{arith}
use lib.Dec.{ltb, eqb}
use lib.ListN.{length}
use lib.IntN.{pos}
use lib.Ieee.{Float, fin, neg}
use Rattle.lists.specs.Gather.{flat_to}
use Rattle.floats.specs.Arithmetic.{zero32}
use Rattle.lists.specs.Refusals.{first_refusal}
use Rattle.tries.specs.Tries.{crossed, candidates_to, candidates_of, unfit}
use Rattle.tries.proofs.CandidatesEnd.{break_is_the_end}
use Rattle.candidates.specs.Candidates.{requirements, refusal_of, answer_of}
use Rattle.cases.specs.Field.{◌over◌}
use Rattle.cases.specs.Candidates.{start, least, greatest, CandidateCases}
use Rattle.cases.proofs.Opened.{floats}

-- the refusal and the answer where the list l is known and refusal 5 does not apply
module _ (start min max step : Float) (lent : ℕ) (l : List Float) (known : candidates_of start min max step ≡ l) (fit : unfit start min max step ≡ false) where
  known_refusal : refusal_of start min max step lent ≡ first_refusal (requirements false (ltb lent (length l)))
  unfolding refusal_of
  known_refusal = ap₂ (λ (b : Bool) (m : List Float). first_refusal (requirements b (ltb lent (length m)))) fit known

  known_answer : answer_of start min max step lent ≡ cond (eqb (first_refusal (requirements false (ltb lent (length l)))) 0) l []
  unfolding answer_of
  known_answer = ap₂ (λ (r : ℕ) (m : List Float). cond (eqb r 0) m []) known_refusal known

-- ---- from -5, between -6.75 and -0.25
-- by 2, in two turns: -5, -3, -1
abbrev three_by_two : List Float
three_by_two = start ∷ neg (3 over 1) ∷ neg (1 over 1) ∷ []

-- both as sign, odd number and power of two
by_2_made : candidates_to 2 start least greatest (2 over 1) ≡ fin true 5 (pos 0) ∷ fin true 3 (pos 0) ∷ fin true 1 (pos 0) ∷ []
unfolding candidates_to crossed flat_to floats
by_2_made = refl

by_2_meant : fin true 5 (pos 0) ∷ fin true 3 (pos 0) ∷ fin true 1 (pos 0) ∷ [] ≡ three_by_two
unfolding floats
by_2_meant = refl

by_2 : candidates_of start least greatest (2 over 1) ≡ three_by_two
unfolding crossed unfit floats
by_2 = break_is_the_end start least greatest (2 over 1) (record { fits_start = tt; fits_min = tt; fits_max = tt; fits_step = tt }) 2 8192 refl (omega arith) (omega arith) refl refl ∙ by_2_made ∙ by_2_meant

-- by 1, in four turns: -5, -6, -4, -3, -2, -1
abbrev six_by_one : List Float
six_by_one = start ∷ neg (6 over 1) ∷ neg (4 over 1) ∷ neg (3 over 1) ∷ neg (2 over 1) ∷ neg (1 over 1) ∷ []

by_1_made : candidates_to 4 start least greatest (1 over 1) ≡ fin true 5 (pos 0) ∷ fin true 3 (pos 1) ∷ fin true 1 (pos 2) ∷ fin true 3 (pos 0) ∷ fin true 1 (pos 1) ∷ fin true 1 (pos 0) ∷ []
unfolding candidates_to crossed flat_to floats
by_1_made = refl

by_1_meant : fin true 5 (pos 0) ∷ fin true 3 (pos 1) ∷ fin true 1 (pos 2) ∷ fin true 3 (pos 0) ∷ fin true 1 (pos 1) ∷ fin true 1 (pos 0) ∷ [] ≡ six_by_one
unfolding floats
by_1_meant = refl

by_1 : candidates_of start least greatest (1 over 1) ≡ six_by_one
unfolding crossed unfit floats
by_1 = break_is_the_end start least greatest (1 over 1) (record { fits_start = tt; fits_min = tt; fits_max = tt; fits_step = tt }) 4 8192 refl (omega arith) (omega arith) refl refl ∙ by_1_made ∙ by_1_meant

-- ---- what is written into 8,200 lent places
pub lent_by_2 : answer_of start least greatest (2 over 1) 8200 ≡ three_by_two
unfolding crossed unfit floats
lent_by_2 = known_answer start least greatest (2 over 1) 8200 three_by_two by_2 refl

pub lent_by_1 : answer_of start least greatest (1 over 1) 8200 ≡ six_by_one
unfolding crossed unfit floats
lent_by_1 = known_answer start least greatest (1 over 1) 8200 six_by_one by_1 refl

-- 0, between 1 and -1, by 1: the bounds are crossed, and only 0 is left
pub lent_crossed : answer_of zero32 (1 over 1) (neg (1 over 1)) (1 over 1) 8200 ≡ zero32 ∷ []
unfolding answer_of refusal_of unfit candidates_to crossed floats
lent_crossed = refl

-- ---- refusals
pub candidate_cases : CandidateCases
unfolding refusal_of unfit candidates_to crossed floats
candidate_cases =
    record {
      two_lent = known_refusal start least greatest (2 over 1) 2 three_by_two by_2 refl;
      three_lent = known_refusal start least greatest (2 over 1) 3 three_by_two by_2 refl;
      fine_step = refl;
      fine_step_crossed = refl;
    }
