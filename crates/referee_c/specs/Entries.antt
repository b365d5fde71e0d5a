-- What the C entries answer: a refusal n as -n, and -100 for words that are no situation. Definitions only.
-- They are of IEEE 754's default float mode, the only one that the language has, so that -101, the answer in another one, is not here.
use Rattle.std.specs.Prelude.{Bool, ◌&&◌, cond, Option, None, Some, Result, Ok, Err, List, [], ◌∷◌, ℕ, ◌+◌, eqb, leb, Float, ℤ, pos, neg_ℤ, length}
use Rattle.std.specs.Float.{binary32}
use Rattle.std.specs.Float.Ieee.{to_bits}
use Rattle.candidates.specs.Candidates.{refusal_of, answer_of as candidates_of}
use Rattle.lists.specs.Put.{fronted}
use Rattle.game.specs.Codes.{side_code}
use Rattle.game.specs.declared.Placement.{Placement}
use Rattle.game.specs.declared.Placement.TheVariants.{NoPlace, BallAt, PlayerAt}
use Rattle.decision.specs.Decision.{Answer, answer_of}
use Rattle.columns.specs.Layout.{word_count}
use Rattle.columns.specs.Columns.{words_within, is_situation}
use Rattle.words.specs.Words.{side_of, situation_of}
use Rattle.call.specs.declared.SheetFor.{SheetFor}
use Rattle.call.specs.declared.SheetFor.TheVariants.{Desk, Display}
use Rattle.call.specs.Call.{sheet_answer, sheet_after}
use Rattle.coach.specs.Coach.{sentence_answer, sentence_after}
use Rattle.lines.specs.declared.Row.{Row}
use Rattle.reading.specs.Reading.{number_of, sheet_read, numbers_read}
use Rattle.reading.specs.declared.NoSheet.{NoSheet}
use Rattle.refusal.specs.Refusal.{number_of as refusal_number}
use Rattle.refusal.specs.declared.Refusal.{Refusal}

-- -n
abbrev pub minus : ℕ → ℤ
minus n = neg_ℤ (pos n)

-- of words: 0 where all are within their columns, otherwise the first that is not, counted from 1; -100 for another number of words
unfoldable pub check_number : List ℕ → ℤ
check_number ws = cond (eqb (length ws) word_count) (pos (cond (eqb (words_within ws) word_count) 0 (words_within ws + 1))) (minus 100)

-- of the sheet's answer
abbrev pub answer_number : Result ℕ Refusal → ℤ
answer_number (Err refusal) = minus (refusal_number refusal)
answer_number (Ok n) = pos n

-- of words, the earlier places and the number of bytes lent, for the desk or the display
unfoldable pub number_for : SheetFor → List ℕ → List Float → List Float → ℕ → ℤ
number_for to ws xs ys lent = cond (is_situation ws) (answer_number (sheet_answer to (situation_of ws) xs ys lent)) (minus 100)

-- the lent bytes after the call; what is no situation changes nothing
unfoldable pub bytes_for : SheetFor → List ℕ → List Float → List Float → List ℕ → List ℕ
bytes_for to ws xs ys sheet = cond (is_situation ws) (sheet_after to (situation_of ws) xs ys sheet) sheet

-- both for the desk
abbrev pub sheet_number : List ℕ → List Float → List Float → ℕ → ℤ
sheet_number ws xs ys lent = number_for Desk ws xs ys lent

abbrev pub sheet_bytes : List ℕ → List Float → List Float → List ℕ → List ℕ
sheet_bytes ws xs ys sheet = bytes_for Desk ws xs ys sheet

-- and for the display
abbrev pub display_number : List ℕ → List Float → List Float → ℕ → ℤ
display_number ws xs ys lent = number_for Display ws xs ys lent

abbrev pub display_bytes : List ℕ → List Float → List Float → List ℕ → List ℕ
display_bytes ws xs ys sheet = bytes_for Display ws xs ys sheet

-- ---- the coach's line
-- the words are a situation, and the side is one
abbrev pub is_coach_asked : List ℕ → ℕ → Bool
is_coach_asked ws side = is_situation ws && leb side 1

-- of words, the earlier places, the side and number of a player and the number of bytes lent
unfoldable pub coach_number : List ℕ → List Float → List Float → ℕ → ℕ → ℕ → ℤ
coach_number ws xs ys side n lent = cond (is_coach_asked ws side) (answer_number (sentence_answer (situation_of ws) xs ys (side_of side) n lent)) (minus 100)

-- the lent bytes after the call
unfoldable pub coach_bytes : List ℕ → List Float → List Float → ℕ → ℕ → List ℕ → List ℕ
coach_bytes ws xs ys side n text = cond (is_coach_asked ws side) (sentence_after (situation_of ws) xs ys (side_of side) n text) text

-- ---- the place as it was decided
-- how many places there are, 1 or 0
abbrev pub place_count : Placement → ℕ
place_count NoPlace = 0
place_count (BallAt x y z) = 1
place_count (PlayerAt side number x y theta) = 1

-- side, number and the patterns of three floats, the sign of a zero kept
abbrev pub words_with : ℕ → ℕ → Float → Float → Float → List ℕ
words_with side number x y z = side ∷ number ∷ to_bits binary32 x ∷ to_bits binary32 y ∷ to_bits binary32 z ∷ []

-- the words of a place, none without one; the ball has the side 2 and the number 0
abbrev pub place_words : Placement → List ℕ
place_words NoPlace = []
place_words (BallAt x y z) = words_with 2 0 x y z
place_words (PlayerAt side number x y theta) = words_with (side_code side) number x y theta

-- of the answer to a situation
abbrev pub placed_number : Answer → ℤ
placed_number a = cond (eqb a.refusal 0) (pos (place_count a.decision.place)) (minus a.refusal)

-- the words are a situation, and five are lent
abbrev pub is_place_asked : List ℕ → ℕ → Bool
is_place_asked ws lent = is_situation ws && leb 5 lent

-- of words, the earlier places and the number of words lent
unfoldable pub place_number : List ℕ → List Float → List Float → ℕ → ℤ
place_number ws xs ys lent = cond (is_place_asked ws lent) (placed_number (answer_of (situation_of ws) xs ys)) (minus 100)

-- the lent words after the call: beside a refusal there is no place
unfoldable pub place_after : List ℕ → List Float → List Float → List ℕ → List ℕ
place_after ws xs ys place = cond (is_place_asked ws (length place)) (fronted (place_words (answer_of (situation_of ws) xs ys).decision.place) place) place

-- ---- reading a sheet
-- of what is read of it
abbrev pub lines_number : Result ℕ NoSheet → ℤ
lines_number (Err refusal) = minus (number_of refusal)
lines_number (Ok n) = pos n

-- of a text
unfoldable pub read_number : List ℕ → ℤ
read_number text = lines_number (sheet_read text)

-- of what is read of a line: 1, or 0 where there is none
abbrev pub line_number : Result (Option Row) NoSheet → ℤ
line_number (Err refusal) = minus (number_of refusal)
line_number (Ok None) = pos 0
line_number (Ok (Some r)) = pos 1

-- the four words of an item, none without one
abbrev pub line_words : Result (Option Row) NoSheet → List ℕ
line_words (Err refusal) = []
line_words (Ok None) = []
line_words (Ok (Some r)) = r.kind ∷ r.side ∷ r.number ∷ r.value ∷ []

-- of a text, the line that is asked for and the number of words lent, of which there must be four
unfoldable pub item_number : List ℕ → ℕ → ℕ → ℤ
item_number text line lent = cond (leb 4 lent) (line_number (numbers_read text line)) (minus 100)

-- the lent words after the call: those of the item at their front
unfoldable pub item_after : List ℕ → ℕ → List ℕ → List ℕ
item_after text line item = cond (leb 4 (length item)) (fronted (line_words (numbers_read text line)) item) item

-- ---- the candidates
-- how many candidates there are; none means a refusal
unfoldable pub candidates_number : Float → Float → Float → Float → ℕ → ℤ
candidates_number start min max step lent =
    cond (eqb (length (candidates_of start min max step lent)) 0) (minus (refusal_of start min max step lent)) (pos (length (candidates_of start min max step lent)))
