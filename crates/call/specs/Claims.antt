-- What is claimed of a sheet for the desk and of one for the display, of every situation, with no premise. Definitions only.
use Rattle.std.specs.Prelude.{cond, Ok, Err, List, [], ◌∷◌, ◌++◌, ◌≡◌, ℕ, ◌≤◌, ◌<◌, eqb, Float, length, take}
use Rattle.lists.specs.Put.{fronted}
use Rattle.lists.specs.Refusals.{Requirement, first_refusal}
use Rattle.game.specs.declared.Situation.{Situation}
use Rattle.refusal.specs.Refusal.{refusal_numbered, number_in}
use Rattle.refusal.specs.declared.Refusal.TheVariants.{Display as MoreLines}
use Rattle.refusals.specs.Refusals.{requirements_of, refusal_of}
use Rattle.decision.specs.Decision.{decision_of}
use Rattle.sheet.specs.Rows.{rows_of}
use Rattle.sheet.specs.Sheet.{answered, text_of, room_for}
use Rattle.call.specs.declared.SheetFor.TheVariants.{Desk, Display}
use Rattle.call.specs.Call.{sheet_answer, sheet_after}

-- ---- the desk
-- the list of refusals as it was before the display: 1 to 5, then 7
abbrev pub requirements_before : Situation → List Float → List Float → ℕ → List Requirement
requirements_before s xs ys lent = requirements_of s xs ys ++ (room_for (decision_of s xs ys) lent ∷ [])

-- for the desk the answer and the bytes are those of that list
pub record AsBefore (s : Situation) (xs ys : List Float) (sheet : List ℕ) : Type 0 where
  pub answer : sheet_answer Desk s xs ys (length sheet) ≡ answered (first_refusal (requirements_before s xs ys (length sheet))) (length (text_of (decision_of s xs ys)))
  pub bytes : sheet_after Desk s xs ys sheet ≡ cond (eqb (first_refusal (requirements_before s xs ys (length sheet))) 0) (fronted (text_of (decision_of s xs ys)) sheet) sheet

abbrev pub DeskClaim : Type 0
DeskClaim = (s : Situation) (xs ys : List Float) (sheet : List ℕ) → AsBefore s xs ys sheet

-- ---- the display
-- what is refused with 1 to 5 is refused with the same number; otherwise more than twelve lines after the header are refused with 12, however many bytes are lent; up to twelve are answered and written
-- as for the desk, and 585 bytes, those of the header and twelve lines, are enough for them; and where both are written the texts are equal
pub record Displayed (s : Situation) (xs ys : List Float) (sheet : List ℕ) : Type 0 where
  pub refused : (refusal_of s xs ys ≡ 0 → ⊥) → (sheet_answer Display s xs ys (length sheet) ≡ Err (refusal_numbered (refusal_of s xs ys))) × (number_in (sheet_answer Display s xs ys (length sheet)) ≡ refusal_of s xs ys) × (sheet_after Display s xs ys sheet ≡ sheet)
  pub too_many : refusal_of s xs ys ≡ 0 → 12 < length (rows_of (decision_of s xs ys)) → (sheet_answer Display s xs ys (length sheet) ≡ Err MoreLines) × (sheet_after Display s xs ys sheet ≡ sheet)
  pub as_for_desk : length (rows_of (decision_of s xs ys)) ≤ 12 → (sheet_answer Display s xs ys (length sheet) ≡ sheet_answer Desk s xs ys (length sheet)) × (sheet_after Display s xs ys sheet ≡ sheet_after Desk s xs ys sheet)
  pub enough : refusal_of s xs ys ≡ 0 → length (rows_of (decision_of s xs ys)) ≤ 12 → 585 ≤ length sheet → sheet_answer Display s xs ys (length sheet) ≡ Ok (length (text_of (decision_of s xs ys)))
  pub same_text : (other : List ℕ) (m n : ℕ) → sheet_answer Display s xs ys (length sheet) ≡ Ok m → sheet_answer Desk s xs ys (length other) ≡ Ok n → (m ≡ n) × (take m (sheet_after Display s xs ys sheet) ≡ take n (sheet_after Desk s xs ys other))

abbrev pub DisplayClaim : Type 0
DisplayClaim = (s : Situation) (xs ys : List Float) (sheet : List ℕ) → Displayed s xs ys sheet
