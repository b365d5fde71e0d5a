-- What a call for a sheet answers, and what the lent bytes are after it: the first refusal of one list, else the sheet. Definitions only.
use Rattle.std.specs.Prelude.{Bool, true, cond, Result, List, [], ◌∷◌, ◌++◌, ℕ, eqb, leb, Float, length}
use Rattle.lists.specs.Put.{fronted}
use Rattle.lists.specs.Refusals.{Requirement, first_refusal}
use Rattle.game.specs.declared.Decision.{Decision}
use Rattle.game.specs.declared.Situation.{Situation}
use Rattle.refusal.specs.declared.Refusal.{Refusal}
use Rattle.refusals.specs.Refusals.{requirements_of}
use Rattle.decision.specs.Decision.{decision_of}
use Rattle.sheet.specs.Rows.{rows_of}
use Rattle.sheet.specs.Sheet.{answered, text_of, room_for}
use Rattle.call.specs.declared.SheetFor.{SheetFor}
use Rattle.call.specs.declared.SheetFor.TheVariants.{Desk, Display}

-- whether so many lines are shown under the header: by the desk all of them, by the display at most twelve
abbrev pub shows : SheetFor → ℕ → Bool
shows Desk lines = true
shows Display lines = leb lines 12

-- 12: more lines follow the header than are shown
abbrev pub lines_for : SheetFor → Decision → Requirement
lines_for to d = record { holds = shows to (length (rows_of d)); number = 12 }

-- the list of refusals: 1 to 5 of the situation, then 12, of the lines, then 7, of the lent bytes
abbrev pub call_requirements : SheetFor → Situation → List Float → List Float → ℕ → List Requirement
call_requirements to s xs ys lent = requirements_of s xs ys ++ (lines_for to (decision_of s xs ys) ∷ room_for (decision_of s xs ys) lent ∷ [])

-- the first refusal, else the number of bytes written
unfoldable pub sheet_answer : SheetFor → Situation → List Float → List Float → ℕ → Result ℕ Refusal
sheet_answer to s xs ys lent = answered (first_refusal (call_requirements to s xs ys lent)) (length (text_of (decision_of s xs ys)))

-- a refusal keeps every byte; else the text and after it the bytes that were there
unfoldable pub sheet_after : SheetFor → Situation → List Float → List Float → List ℕ → List ℕ
sheet_after to s xs ys sheet = cond (eqb (first_refusal (call_requirements to s xs ys (length sheet))) 0) (fronted (text_of (decision_of s xs ys)) sheet) sheet
