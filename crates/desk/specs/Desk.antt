-- What is printed for a text that may be a situation: its sheet, for the desk or the display, or the coach's lines, the number of the refusal, or one line that says at which number something is wrong and what;
-- and for one that may be a sheet: a line for each of its items, or the number of the refusal. Definitions only.
use Rattle.std.specs.Prelude.{cond, Option, Some, None, Result, Ok, Err, List, [], ◌∷◌, ◌++◌, ℕ, ◌+◌, eqb, Float, get_or, take}
use Rattle.std.specs.Float.{binary32}
use Rattle.std.specs.Float.Ieee.{of_bits}
use Rattle.lists.specs.Table.{table}
use Rattle.game.specs.declared.Situation.{Situation}
use Rattle.numbers.specs.Numbers.{numbers_of}
use Rattle.columns.specs.Layout.{word_count}
use Rattle.input.specs.Input.{first_x, first_y, input_of}
use Rattle.input.specs.declared.Lists.{Lists}
use Rattle.input.specs.declared.Wrong.{Wrong}
use Rattle.words.specs.Words.{situation_of}
use Rattle.decision.specs.Decision.{decision_of}
use Rattle.refusal.specs.Refusal.{number_of}
use Rattle.refusal.specs.declared.Refusal.{Refusal}
use Rattle.replies.specs.Replies.{fault_line, refused_line, line_in, written_in}
use Rattle.call.specs.declared.SheetFor.TheVariants.{Desk, Display}
use Rattle.call.specs.Call.{sheet_answer, sheet_after}
use Rattle.coach.specs.Coach.{sentences_of, sentences_answer, sentences_after}
use Rattle.sheet.specs.Sheet.{text_of}
use Rattle.items.specs.declared.Item.{Item}
use Rattle.reading.specs.Reading.{read_refusal, items_in}
use Rattle.reading.specs.declared.NoSheet.{NoSheet}
use Rattle.item_lines.specs.ItemLines.{item_line}
use Rattle.desk.specs.declared.Reply.{Reply}
use Rattle.desk.specs.declared.Reply.TheVariants.{Answer, Told}
use Rattle.desk.specs.declared.Wanted.{Wanted}
use Rattle.desk.specs.declared.Wanted.TheVariants.{Sheet, Sentences}

-- what is printed: an answer, a sheet, the coach's lines or those of items, or something else that is told, a refusal or what is wrong with the input
pub data Printed : Type 0 where
  answer : List ℕ → Printed
  told : List ℕ → Printed

-- the floats of n patterns from a place on
unfoldable pub places_from : List ℕ → ℕ → ℕ → List Float
places_from ns from n = table n (λ k. of_bits binary32 (get_or ns (from + k) 0))

-- the text that is written, or the line of the refusal
abbrev pub answer_printed : Result ℕ Refusal → List ℕ → Printed
answer_printed (Err refusal) text = told (refused_line (number_of refusal))
answer_printed (Ok n) text = answer text

-- the text that is wanted of a situation
abbrev pub wanted_text : Wanted → Situation → List Float → List Float → List ℕ
wanted_text (Sheet to) s xs ys = text_of (decision_of s xs ys)
wanted_text Sentences s xs ys = sentences_of s

-- what is then answered, and the lent bytes after it
abbrev pub wanted_answer : Wanted → Situation → List Float → List Float → ℕ → Result ℕ Refusal
wanted_answer (Sheet to) s xs ys lent = sheet_answer to s xs ys lent
wanted_answer Sentences s xs ys lent = sentences_answer s xs ys lent

abbrev pub wanted_after : Wanted → Situation → List Float → List Float → List ℕ → List ℕ
wanted_after (Sheet to) s xs ys out = sheet_after to s xs ys out
wanted_after Sentences s xs ys out = sentences_after s xs ys out

-- for a situation and its earlier places, where so many bytes are lent
unfoldable pub situation_printed : Wanted → Situation → List Float → List Float → ℕ → Printed
situation_printed wanted s xs ys lent = answer_printed (wanted_answer wanted s xs ys lent) (wanted_text wanted s xs ys)

-- for numbers: the words, the number of earlier x and their patterns, the number of earlier y and theirs
unfoldable pub numbers_printed : Wanted → List ℕ → ℕ → ℕ → ℕ → Printed
numbers_printed wanted ns nx ny lent = situation_printed wanted (situation_of (take word_count ns)) (places_from ns first_x nx) (places_from ns (first_y + nx) ny) lent

-- by what the text is
abbrev pub input_printed : Wanted → Result Lists Wrong → List ℕ → ℕ → Printed
input_printed wanted (Ok lists) ns lent = numbers_printed wanted ns lists.xs lists.ys lent
input_printed wanted (Err wrong) ns lent = told (fault_line ns wrong.place wrong.fault)

-- for a text
unfoldable pub text_printed : Wanted → List ℕ → ℕ → Printed
text_printed wanted text lent = input_printed wanted (input_of text) (numbers_of text) lent

-- where the sheet is wanted for the desk
abbrev pub judged_printed : List ℕ → ℕ → Printed
judged_printed text lent = text_printed (Sheet Desk) text lent

-- where it is wanted for the display
abbrev pub displayed_printed : List ℕ → ℕ → Printed
displayed_printed text lent = text_printed (Sheet Display) text lent

-- where the coach's lines are
abbrev pub coached_printed : List ℕ → ℕ → Printed
coached_printed text lent = text_printed Sentences text lent

-- ---- a sheet that is read
-- the lines of items, one after the other
unfoldable pub item_lines : List Item → List ℕ
item_lines [] = []
item_lines (i ∷ is) = item_line i ++ item_lines is

-- the lines of its items, or the refusal
unfoldable pub read_printed : List ℕ → Printed
read_printed text = cond (eqb (read_refusal text) 0) (answer (item_lines (items_in text))) (told (refused_line (read_refusal text)))

-- ---- on lent bytes
-- what is printed as a text
abbrev pub printed_text : Printed → List ℕ
printed_text (answer text) = text
printed_text (told text) = text

-- the bytes with it at their front; those that are fewer are as they were
unfoldable pub printed_in : Printed → List ℕ → List ℕ
printed_in p out = line_in (printed_text p) out

-- whether it is an answer, and how many bytes are written
unfoldable pub reply_in : Printed → List ℕ → Reply
reply_in (answer text) out = Answer (written_in text out)
reply_in (told text) out = Told (written_in text out)

-- ---- of the private functions: the line of what is read of a line, where it is an item
abbrev pub found_line : Result (Option Item) NoSheet → List ℕ
found_line (Err refusal) = []
found_line (Ok None) = []
found_line (Ok (Some item)) = item_line item
