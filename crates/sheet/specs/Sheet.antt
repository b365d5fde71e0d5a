-- The sheet of a decision: its text, what its writer answers, and what the lent bytes are after it. Definitions only.
use Rattle.std.specs.Prelude.{Result, Ok, Err, List, [], ◌∷◌, ℕ, leb, length}
use Rattle.lists.specs.Put.{fronted_into}
use Rattle.lists.specs.Refusals.{Requirement, first_refusal}
use Rattle.game.specs.declared.Decision.{Decision}
use Rattle.lines.specs.Line.{lines_of}
use Rattle.refusal.specs.Refusal.{unless_refused}
use Rattle.refusal.specs.declared.Refusal.{Refusal}
use Rattle.sheet.specs.Rows.{sheet_rows}

-- the number of bytes that an answer tells of
abbrev pub bytes_in : Result ℕ Refusal → ℕ
bytes_in (Err r) = 0
bytes_in (Ok n) = n

-- the number of a refusal; where it is 0, for none, so many bytes are written
abbrev pub answered : ℕ → ℕ → Result ℕ Refusal
answered refusal bytes = unless_refused refusal bytes

-- the text of a decision
unfoldable pub text_of : Decision → List ℕ
text_of d = lines_of (sheet_rows d)

-- 7: the lent bytes are too few for the text
abbrev pub room_for : Decision → ℕ → Requirement
room_for d lent = record { holds = leb (length (text_of d)) lent; number = 7 }

-- 7, or the length of the text
unfoldable pub decision_answer : Decision → ℕ → Result ℕ Refusal
decision_answer d lent = answered (first_refusal (room_for d lent ∷ [])) (length (text_of d))

-- the text and after it the bytes that were there; where it is too long, all the bytes that were there
abbrev pub decision_sheet : Decision → List ℕ → List ℕ
decision_sheet d sheet = fronted_into (text_of d) sheet
