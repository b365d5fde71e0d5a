-- The coach's calls: the line on one player, or those on all that do not stand legally, by the first refusal of a list or the text. Definitions only.
use Rattle.std.specs.Prelude.{not, ◌&&◌, ◌||◌, cond, Result, Ok, Err, List, [], ◌∷◌, ◌++◌, ℕ, eqb, leb, Float, length, take, drop, get_or}
use Rattle.lists.specs.Gather.{flat_to}
use Rattle.lists.specs.Put.{fronted, fronted_into}
use Rattle.lists.specs.Refusals.{Requirement, first_refusal}
use Rattle.game.specs.Players.{player_numbered, team_of, number_at}
use Rattle.game.specs.declared.Side.{Side}
use Rattle.game.specs.declared.Side.TheVariants.{Home, Away}
use Rattle.game.specs.declared.Situation.{Situation}
use Rattle.geometry.specs.Geometry.{side_to_sign, player_margins, compute_margins}
use Rattle.conditions.specs.Conditions.{verdict_of, is_some}
use Rattle.conditions.specs.declared.Condition.{Condition}
use Rattle.conditions.specs.declared.Condition.TheVariants.{NoCondition}
use Rattle.positioning.specs.Positioning.{condition_of, team_conditions}
use Rattle.refusal.specs.Refusal.{number_of}
use Rattle.refusal.specs.declared.Refusal.{Refusal}
use Rattle.refusals.specs.Refusals.{is_player_number, requirements_of}
use Rattle.sentences.specs.Sentences.{line_of}
use Rattle.sheet.specs.Sheet.{answered}

-- ---- the line on one player
-- the condition that settles the verdict on the player of a side with this number
unfoldable pub condition_for : Situation → Side → ℕ → Condition
condition_for s side n =
    let team = team_of s side in
    let player = player_numbered team n in
    condition_of s.game s.field s.ball side team.goalkeeper n player (player_margins player s.field (side_to_sign side s.game.sides))

-- the line of a condition; without one the player stands legally, and the line is empty
abbrev pub line_for : Side → ℕ → Condition → List ℕ
line_for side n c = cond (is_some c) (line_of side n (verdict_of c) c) []

-- the line on the player of a side with this number
unfoldable pub sentence_of : Situation → Side → ℕ → List ℕ
sentence_of s side n = line_for side n (condition_for s side n)

-- 4: the number that is asked for is outside PlayerNumber::MIN to MAX
abbrev pub numbered : ℕ → Requirement
numbered n = record { holds = is_player_number n; number = 4 }

-- 8: the lent text is shorter than the line
abbrev pub room_for : List ℕ → ℕ → Requirement
room_for text lent = record { holds = leb (length text) lent; number = 8 }

-- what must hold before the line is written: 1 to 4 of the situation, 4 of the number that is asked for, and 5 of the situation
unfoldable pub asked_requirements : Situation → List Float → List Float → ℕ → List Requirement
asked_requirements s xs ys n = take 4 (requirements_of s xs ys) ++ (numbered n ∷ drop 4 (requirements_of s xs ys))

-- the list of refusals: these, then 8, of the lent text
abbrev pub coach_requirements : Situation → List Float → List Float → Side → ℕ → ℕ → List Requirement
coach_requirements s xs ys side n lent = asked_requirements s xs ys n ++ (room_for (sentence_of s side n) lent ∷ [])

-- the first refusal, else the line's length
unfoldable pub sentence_answer : Situation → List Float → List Float → Side → ℕ → ℕ → Result ℕ Refusal
sentence_answer s xs ys side n lent = answered (first_refusal (coach_requirements s xs ys side n lent)) (length (sentence_of s side n))

-- a refusal keeps every byte; else the line and after it the bytes that were there
unfoldable pub sentence_after : Situation → List Float → List Float → Side → ℕ → List ℕ → List ℕ
sentence_after s xs ys side n text = cond (eqb (first_refusal (coach_requirements s xs ys side n (length text))) 0) (fronted (sentence_of s side n) text) text

-- ---- the lines on all players
-- with a line feed after it, unless it is empty
abbrev pub ended : List ℕ → List ℕ
ended [] = []
ended (x ∷ l) = (x ∷ l) ++ (10 ∷ [])

-- those on a side's players, in the order of their numbers
unfoldable pub side_sentences : Situation → Side → List ℕ
side_sentences s side = flat_to 20 (λ i. ended (sentence_of s side (number_at i)))

-- Home before Away, as the sheet's lines of kind 1
unfoldable pub sentences_of : Situation → List ℕ
sentences_of s = side_sentences s Home ++ side_sentences s Away

-- the list of refusals: 1 to 5 of the situation, then 8, of the lent text
abbrev pub all_requirements : Situation → List Float → List Float → ℕ → List Requirement
all_requirements s xs ys lent = requirements_of s xs ys ++ (room_for (sentences_of s) lent ∷ [])

-- the first refusal, else the length of the text
unfoldable pub sentences_answer : Situation → List Float → List Float → ℕ → Result ℕ Refusal
sentences_answer s xs ys lent = answered (first_refusal (all_requirements s xs ys lent)) (length (sentences_of s))

-- a refusal keeps every byte; else the text and after it the bytes that were there
unfoldable pub sentences_after : Situation → List Float → List Float → List ℕ → List ℕ
sentences_after s xs ys text = cond (eqb (first_refusal (all_requirements s xs ys (length text))) 0) (fronted (sentences_of s) text) text

-- ---- where the first refusal but 8 is known, by its number
-- 8, or the length of a text
abbrev pub line_answer : List ℕ → ℕ → Result ℕ Refusal
line_answer text lent = answered (first_refusal (room_for text lent ∷ [])) (length text)

-- the first refusal of a situation, with 4 of the number that is asked for before 5
abbrev pub with_number : ℕ → ℕ → ℕ
with_number refusal n = cond ((eqb refusal 0 || eqb refusal 5) && not (is_player_number n)) 4 refusal

-- an answer by the number of its refusal
abbrev pub by_number : Result ℕ Refusal → Result ℕ ℕ
by_number (Ok n) = Ok n
by_number (Err r) = Err (number_of r)

-- it, 8, or the length of a text
unfoldable pub text_answer : ℕ → List ℕ → ℕ → Result ℕ ℕ
text_answer refusal text lent = cond (eqb refusal 0) (by_number (line_answer text lent)) (Err refusal)

-- a refusal keeps every byte; else the text and after it the bytes that were there
unfoldable pub text_after : ℕ → List ℕ → List ℕ → List ℕ
text_after refusal text s = cond (eqb refusal 0) (fronted_into text s) s

-- ---- of private functions
-- the conditions on a side's players by their places
unfoldable pub side_conditions : Situation → Side → List Condition
side_conditions s side = team_conditions s.game s.field s.ball side (team_of s side) (compute_margins (team_of s side) s.field (side_to_sign side s.game.sides))

-- the lines of a list of conditions
unfoldable pub lines_for : Side → List Condition → List ℕ
lines_for side conditions = flat_to 20 (λ i. ended (line_for side (number_at i) (get_or conditions i NoCondition)))
