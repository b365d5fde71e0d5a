-- What is claimed of the coach's lines beside the sheet and at both ends of the field, of every situation, with no premise. Definitions only.
use Rattle.std.specs.Prelude.{◌≡◌, Bool, true, false, not, ◌&&◌, ◌||◌, cond, List, [], ◌∷◌, ◌++◌, ℕ, ◌<◌, eqb, Float, length, get_or}
use Rattle.game.specs.Codes.{side_code}
use Rattle.game.specs.Players.{number_at}
use Rattle.game.specs.declared.Decision.{Decision}
use Rattle.game.specs.declared.Positioning.{Positioning}
use Rattle.game.specs.declared.Positioning.TheVariants.{Legal, Illegal, IllegalUnlessKicker, InAvoidanceRegion}
use Rattle.game.specs.declared.Side.{Side}
use Rattle.game.specs.declared.Side.TheVariants.{Home, Away}
use Rattle.game.specs.declared.SideDecision.{SideDecision}
use Rattle.game.specs.declared.Situation.{Situation}
use Rattle.conditions.specs.declared.Condition.{Condition}
use Rattle.decision.specs.Decision.{decision_of}
use Rattle.decision.specs.Changed.{changed, changed_places}
use Rattle.lines.specs.declared.Row.{Row}
use Rattle.sheet.specs.Rows.{sheet_rows}
use Rattle.sentences.specs.Sentences.{line_of}
use Rattle.coach.specs.Coach.{condition_for, sentence_of, ended, sentences_of, sentence_answer, sentence_after, sentences_answer, sentences_after}

-- ---- beside the sheet
-- the items of a side
abbrev pub side_in : Decision → Side → SideDecision
side_in d Home = d.home
side_in d Away = d.away

-- the verdict of a decision on the player of a side at the place i
abbrev pub verdict_in : Decision → Side → ℕ → Positioning
verdict_in d side i = get_or (side_in d side).verdicts i Legal

-- the line of a verdict and a condition, empty for Legal
abbrev pub verdict_line : Side → ℕ → Positioning → Condition → List ℕ
verdict_line side n Legal c = []
verdict_line side n Illegal c = line_of side n Illegal c
verdict_line side n IllegalUnlessKicker c = line_of side n IllegalUnlessKicker c
verdict_line side n InAvoidanceRegion c = line_of side n InAvoidanceRegion c

-- with a line before them, or without it
abbrev pub kept_if : Bool → Row → List Row → List Row
kept_if true r rs = r ∷ rs
kept_if false r rs = rs

-- the lines of a kind, in their order
abbrev pub of_kind : ℕ → List Row → List Row
of_kind k [] = []
of_kind k (r ∷ rs) = kept_if (eqb r.kind k) r (of_kind k rs)

-- the sheet's lines of kind 1
abbrev pub verdict_lines : Decision → List Row
verdict_lines d = of_kind 1 (sheet_rows d)

-- one of the lines is for the player of a side with this number
abbrev pub any_for : Side → ℕ → List Row → Bool
any_for side n [] = false
any_for side n (r ∷ rs) = eqb r.side (side_code side) && eqb r.number n || any_for side n rs

-- of the player of a side at the place i: the verdict in its line is the decision's, and the line is empty exactly where the sheet has no line of kind 1 for it
pub record Beside (s : Situation) (xs ys : List Float) (side : Side) (i : ℕ) : Type 0 where
  pub verdict : sentence_of s side (number_at i) ≡ verdict_line side (number_at i) (verdict_in (decision_of s xs ys) side i) (condition_for s side (number_at i))
  pub empty : eqb (length (sentence_of s side (number_at i))) 0 ≡ not (any_for side (number_at i) (verdict_lines (decision_of s xs ys)))

-- it is so of all 40 players
abbrev pub BesideSheetClaim : Type 0
BesideSheetClaim = (s : Situation) (xs ys : List Float) (side : Side) (i : ℕ) → i < 20 → Beside s xs ys side i

-- ---- the order of the lines
-- the side of a line of the sheet
abbrev pub side_of_code : ℕ → Side
side_of_code n = cond (eqb n 0) Home Away

-- the sentences on the players of lines, one after the other, each with a line feed
abbrev pub row_sentences : Situation → List Row → List ℕ
row_sentences s [] = []
row_sentences s (r ∷ rs) = ended (sentence_of s (side_of_code r.side) r.number) ++ row_sentences s rs

-- all sentences are those for the sheet's lines of kind 1, in their order
abbrev pub SheetOrderClaim : Type 0
SheetOrderClaim = (s : Situation) (xs ys : List Float) → sentences_of s ≡ row_sentences s (verdict_lines (decision_of s xs ys))

-- ---- at both ends
-- where x, y or both change their signs, both calls answer and leave the same
pub record Alike (a b : Bool) (s : Situation) (xs ys : List Float) : Type 0 where
  pub answer : (side : Side) (n lent : ℕ) → sentence_answer (changed a b s) (changed_places a xs) (changed_places b ys) side n lent ≡ sentence_answer s xs ys side n lent
  pub after : (side : Side) (n : ℕ) (text : List ℕ) → sentence_after (changed a b s) (changed_places a xs) (changed_places b ys) side n text ≡ sentence_after s xs ys side n text
  pub all_answer : (lent : ℕ) → sentences_answer (changed a b s) (changed_places a xs) (changed_places b ys) lent ≡ sentences_answer s xs ys lent
  pub all_after : (text : List ℕ) → sentences_after (changed a b s) (changed_places a xs) (changed_places b ys) text ≡ sentences_after s xs ys text

-- it is so of every situation, accepted or not, and every change of signs
abbrev pub BothEndsClaim : Type 0
BothEndsClaim = (a b : Bool) (s : Situation) (xs ys : List Float) → Alike a b s xs ys

-- the half turn among them: without exception
abbrev pub CoachHalfTurnClaim : Type 0
CoachHalfTurnClaim = (s : Situation) (xs ys : List Float) → Alike true true s xs ys
