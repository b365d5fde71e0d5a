-- What the parts of the code for a penalty place tell each other. Definitions only: nothing here stands in the contract of an exported function.
use Rattle.std.specs.Prelude.{true, false, cond, List, ℕ, Float}
use Rattle.std.specs.Float.Ieee.{le}
use Rattle.floats.specs.Leaves.{total_order}
use Rattle.tries.specs.Tries.{candidate_at, is_candidate}
use Rattle.clearance.specs.Clearance.{Spot, clearance}
use Rattle.penalty.specs.declared.Choice.{Choice}
use Rattle.penalty.specs.declared.Search.{Search}
use Rattle.penalty.specs.Penalty.{not_below, clear_from}

-- the choice after the candidate x with the clearance c: kept where the distance was reached, taken where c reaches it or is not below the greatest so far
unfoldable pub considered : Choice → Float → Float → Float → Choice
considered s d x c =
    cond s.reached s
    (cond (le d c) (record { reached = true; x = x; clearance = c })
    (cond (not_below (total_order c s.clearance)) (record { reached = false; x = x; clearance = c }) s))

-- the clearance of the team's x
abbrev pub clear_at : Search → List Spot → Float → Float
clear_at s spots x = clear_from s.sign s.y spots x

-- the choice after the candidate x
abbrev pub consider : Search → List Spot → Float → Choice → Choice
consider s spots x choice = considered choice s.distance x (clear_at s spots x)

-- the choice after the try j, which may have no candidate
unfoldable pub after_try : Search → List Spot → ℕ → Choice → Choice
unfolding considered candidate_at is_candidate clearance
after_try s spots j choice =
    cond (is_candidate s.min s.max j (candidate_at s.first s.distance j)) (consider s spots (candidate_at s.first s.distance j) choice) choice
