-- The half turn of every situation that an entry can be handed: any words and any two lists of earlier places, with no hypothesis but acceptance. Definitions only.
use Rattle.std.specs.Prelude.{◌≡◌, Bool, false, List, ℕ, Float}
use Rattle.refusals.specs.Refusals.{refusal_of}
use Rattle.decision.specs.Decision.{decision_of}
use Rattle.decision.specs.Changed.{changed, changed_places, ChangedDecision}
use Rattle.decision.specs.HalfTurn.{HalfTurn}
use Rattle.words.specs.Words.{situation_of}

-- the turned situation is accepted, and the decisions are equal if and only if the exception does not hold
abbrev pub WordsHalfTurnClaim : Type 0
WordsHalfTurnClaim = (ws : List ℕ) (xs ys : List Float) → refusal_of (situation_of ws) xs ys ≡ 0 → HalfTurn (situation_of ws) xs ys

-- where x keeps its sign, as in a mirror image in y, there is no exception
abbrev pub WordsMirrorImageClaim : Type 0
WordsMirrorImageClaim =
    (b : Bool) (ws : List ℕ) (xs ys : List Float) → refusal_of (situation_of ws) xs ys ≡ 0 → ChangedDecision false b (situation_of ws).wish (decision_of (situation_of ws) xs ys) (decision_of (changed false b (situation_of ws)) (changed_places false xs) (changed_places b ys))
