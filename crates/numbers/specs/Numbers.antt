-- Decimal numbers in a text of bytes, with blanks, tabs, line feeds or carriage returns between them. Definitions only.
use Rattle.std.specs.Prelude.{Bool, true, false, ◌&&◌, ◌||◌, Result, Ok, Err, List, [], ◌∷◌, ℕ, ◌+◌, ◌-◌, ◌*◌, eqb, leb, length, take}
use Rattle.lists.specs.Put.{fronted}
use Rattle.numbers.specs.declared.Unread.{Unread}
use Rattle.numbers.specs.declared.Unread.TheVariants.{NotANumber, TooLarge}

-- ---- fields
-- a blank, a tab, a line feed or a carriage return
abbrev pub is_separator : ℕ → Bool
is_separator b = eqb b 32 || eqb b 9 || eqb b 10 || eqb b 13

-- the byte b in front of the first piece
abbrev pub on_first : ℕ → List (List ℕ) → List (List ℕ)
on_first b [] = (b ∷ []) ∷ []
on_first b (p ∷ ps) = (b ∷ p) ∷ ps

-- the pieces with the byte b before them; the Bool tells whether it separates
abbrev pub cut : Bool → ℕ → List (List ℕ) → List (List ℕ)
cut true b ps = [] ∷ ps
cut false b ps = on_first b ps

-- the text cut at each separator
unfoldable pub pieces : List ℕ → List (List ℕ)
pieces [] = [] ∷ []
pieces (b ∷ rest) = cut (is_separator b) b (pieces rest)

-- the pieces that are not empty
unfoldable pub non_empty : List (List ℕ) → List (List ℕ)
non_empty [] = []
non_empty ([] ∷ ps) = non_empty ps
non_empty ((b ∷ p) ∷ ps) = (b ∷ p) ∷ non_empty ps

-- the fields of a text
abbrev pub fields : List ℕ → List (List ℕ)
fields t = non_empty (pieces t)

-- ---- numbers
-- the byte of one of 0 to 9
abbrev pub is_digit : ℕ → Bool
is_digit b = leb 48 b && leb b 57

-- every byte is a digit
unfoldable pub all_digits : List ℕ → Bool
all_digits [] = true
all_digits (b ∷ f) = is_digit b && all_digits f

-- the decimal value of digits that follow those of v
unfoldable pub value_from : ℕ → List ℕ → ℕ
value_from v [] = v
value_from v (b ∷ f) = value_from (10 * v + (b - 48)) f

-- the decimal value of a field
abbrev pub value_of : List ℕ → ℕ
value_of f = value_from 0 f

-- at most 2^32 - 1
abbrev pub is_small : ℕ → Bool
is_small v = leb v 4294967295

-- digits, of a value that is at most 2^32 - 1
abbrev pub is_number : List ℕ → Bool
is_number f = all_digits f && is_small (value_of f)

-- ---- what is read
-- v and those after it, where the Bool tells whether v counts
abbrev pub then_more : Bool → ℕ → List ℕ → List ℕ
then_more true v ns = v ∷ ns
then_more false v ns = []

-- the values of the longest front of the fields that are all numbers
unfoldable pub numbers_in : List (List ℕ) → List ℕ
numbers_in [] = []
numbers_in (f ∷ fs) = then_more (is_number f) (value_of f) (numbers_in fs)

-- the reading at the field k, counted from 0: a fault where not all of it is digits, or its value is not small, else that of the later fields
abbrev pub judged : Bool → Bool → ℕ → Result ℕ Unread → Result ℕ Unread
judged false small k later = Err (NotANumber k)
judged true false k later = Err (TooLarge k)
judged true true k later = later

-- the reading of fields that follow n numbers: how many numbers there are in all, or which field, counted from 0, is the first that is none
unfoldable pub reading_from : ℕ → List (List ℕ) → Result ℕ Unread
reading_from n [] = Ok n
reading_from n (f ∷ fs) = judged (all_digits f) (is_small (value_of f)) n (reading_from (n + 1) fs)

-- the numbers of a text, up to the first field that is none
abbrev pub numbers_of : List ℕ → List ℕ
numbers_of t = numbers_in (fields t)

-- how many numbers a text has, or its first field that is none
abbrev pub reading_of : List ℕ → Result ℕ Unread
reading_of t = reading_from 0 (fields t)

-- the buffer with the numbers at its front, as many as it has room for; the rest is kept
unfoldable pub stored : List ℕ → List ℕ → List ℕ
stored ns buffer = fronted (take (length buffer) ns) buffer
