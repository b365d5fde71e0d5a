-- What a call of `judge` asks for, by its words: `judge [COMMAND] [FILE]`. Definitions only.
use Rattle.std.specs.Prelude.{Bool, ◌&&◌, cond, List, [], ◌∷◌, ℕ, zero, suc, eqb, length, get_or, Option, None, Some}
use Rattle.lists.specs.Every.{every_to}
use Rattle.arguments.specs.declared.Command.TheVariants.{Sheet, Display, Coach, Read, Help}
use Rattle.arguments.specs.declared.Source.{Source}
use Rattle.arguments.specs.declared.Source.TheVariants.{StandardInput, FirstWord, SecondWord}
use Rattle.arguments.specs.declared.Asked.{Asked}
use Rattle.arguments.specs.declared.Command.{Command}

-- the same bytes
unfoldable pub is_word : List ℕ → List ℕ → Bool
is_word word name = eqb (length word) (length name) && every_to (length word) (λ i. eqb (get_or word i 0) (get_or name i 0))

-- "sheet"
abbrev pub sheet_word : List ℕ
sheet_word = 115 ∷ 104 ∷ 101 ∷ 101 ∷ 116 ∷ []

-- "display"
abbrev pub display_word : List ℕ
display_word = 100 ∷ 105 ∷ 115 ∷ 112 ∷ 108 ∷ 97 ∷ 121 ∷ []

-- "coach"
abbrev pub coach_word : List ℕ
coach_word = 99 ∷ 111 ∷ 97 ∷ 99 ∷ 104 ∷ []

-- "read"
abbrev pub read_word : List ℕ
read_word = 114 ∷ 101 ∷ 97 ∷ 100 ∷ []

-- "help"
abbrev pub help_word : List ℕ
help_word = 104 ∷ 101 ∷ 108 ∷ 112 ∷ []

-- "-"
abbrev pub dash : List ℕ
dash = 45 ∷ []

-- the command that a word is, or none
unfoldable pub command_of : List ℕ → Option Command
command_of word =
    cond (is_word word sheet_word) (Some Sheet)
    (cond (is_word word display_word) (Some Display) (cond (is_word word coach_word) (Some Coach) (cond (is_word word read_word) (Some Read) (cond (is_word word help_word) (Some Help) None))))

-- standard input for "-", otherwise the file of that name
unfoldable pub source_of : List ℕ → Source → Source
source_of word file = cond (is_word word dash) StandardInput file

-- a command and what it reads
abbrev pub run : Command → Source → Option Asked
run c s = Some (record { command = c; source = s })

-- one word is a command, or else the file whose sheet is asked for
abbrev pub by_one : Option Command → List ℕ → Option Asked
by_one None first = run Sheet (source_of first FirstWord)
by_one (Some c) first = run c StandardInput

-- of two words the first must be a command, and the second is its file
abbrev pub by_two : Option Command → List ℕ → Option Asked
by_two None second = None
by_two (Some c) second = run c (source_of second SecondWord)

-- what so many words ask for, of which the first two are given
unfoldable pub asked_of : ℕ → List ℕ → List ℕ → Option Asked
asked_of zero first second = run Sheet StandardInput
asked_of (suc zero) first second = by_one (command_of first) first
asked_of (suc (suc zero)) first second = by_two (command_of first) second
asked_of (suc (suc (suc n))) first second = None
