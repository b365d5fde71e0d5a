-- Demand 3: for every accepted situation the decision and that of the situation turned half round are equal if and only if the exception does not hold.
-- It is the theorem of the change of signs for both of them. Assumes nothing.
use mathlib.Core.Bool.{true}
use Rattle.decision.specs.HalfTurn.{HalfTurnClaim}
use Rattle.decision.proofs.Changed.{changed_decision}

pub half_turn : HalfTurnClaim
half_turn s xs ys f e =
    let c = changed_decision true true s xs ys f e in
    record { accepted_too = c.accepted_too; equal_only_if = c.equal_only_if; equal_if = c.equal_if }
