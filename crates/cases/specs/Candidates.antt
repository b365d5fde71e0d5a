-- Refusals of the candidates from -5 between -6.75 and -0.25. Definitions only.
use Rattle.std.specs.Prelude.{◌≡◌, Float}
use Rattle.std.specs.Float.Ieee.{neg}
use Rattle.floats.specs.Arithmetic.{zero32}
use Rattle.candidates.specs.Candidates.{refusal_of}
use Rattle.cases.specs.Field.{◌over◌}

-- -5
abbrev pub start : Float
start = neg (5 over 1)

-- -6.75
abbrev pub least : Float
least = neg (27 over 4)

-- -0.25
abbrev pub greatest : Float
greatest = neg (1 over 4)

-- the refusal, or 0 for none
pub record CandidateCases : Type 0 where
  -- by 2: three places needed and two lent, refusal 6
  pub two_lent : refusal_of start least greatest (2 over 1) 2 ≡ 6
  -- three lent: none
  pub three_lent : refusal_of start least greatest (2 over 1) 3 ≡ 0
  -- a step of 0.01: refusal 5, also where there is no room
  pub fine_step : refusal_of start least greatest (1 over 100) 0 ≡ 5
  -- none where the bounds are crossed
  pub fine_step_crossed : refusal_of zero32 (1 over 1) (neg (1 over 1)) (1 over 100) 1 ≡ 0
