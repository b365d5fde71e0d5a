-- Every sheet has room in 7,470 bytes. Assumes nothing.
use mathlib.Core.Path.{◌≡◌, ◌∙◌}
use mathlib.Core.List.{List}
use Prim.Native.Nat.{ℕ, ◌≤◌}
use native.Mathlib.Omega.{arith}
use borrow.Author.Tests.{eq-eqb, le-ltb}
use lib.Ieee.{Float}
use lib.ListN.{length}
use Rattle.std.specs.Prelude.{Ok}
use Rattle.game.specs.Players.{team_of}
use Rattle.game.specs.declared.Side.{Side}
use Rattle.game.specs.declared.Side.TheVariants.{Home, Away}
use Rattle.game.specs.declared.Situation.{Situation}
use Rattle.refusals.specs.Refusals.{refusal_of}
use Rattle.decision.specs.Decision.{side_margins, team_decision, side_decision, decision_of}
use Rattle.decision.proofs.Few.{moved_few, leaving_few, excess_few}
use Rattle.sheet.specs.Sheet.{text_of}
use Rattle.sheet.proofs.Room.{Short, text_few}
use Rattle.call.specs.declared.SheetFor.TheVariants.{Desk}
use Rattle.call.specs.Call.{sheet_answer}
use Rattle.call.proofs.Answers.{answer_cases}

side_short : (s : Situation) (side : Side) → Short (side_decision s side)
unfolding side_decision team_decision
side_short s side =
    record {
      excess = excess_few s.game (team_of s side) (side_margins s side);
      leaving = leaving_few (team_of s side) s.field;
      moved = moved_few (team_of s side);
    }

pub text_room : (s : Situation) (xs ys : List Float) → length (text_of (decision_of s xs ys)) ≤ 7470
unfolding decision_of
text_room s xs ys = text_few (decision_of s xs ys) (side_short s Home) (side_short s Away)

-- 7,470 bytes are never too few for the desk: what is not refused for itself is written
pub room_enough : (s : Situation) (xs ys : List Float) (lent : ℕ) → 7470 ≤ lent → refusal_of s xs ys ≡ 0 → sheet_answer Desk s xs ys lent ≡ Ok (length (text_of (decision_of s xs ys)))
room_enough s xs ys lent h e =
    answer_cases Desk s xs ys lent ∙ simp (eq-eqb (refusal_of s xs ys) 0 e, le-ltb lent (length (text_of (decision_of s xs ys))) (omega (arith, text_room s xs ys, h)))
