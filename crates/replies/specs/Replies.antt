-- A line of text as an answer: a refusal, or at which number something is wrong and what. Definitions only.
-- ns are the numbers of an input. They are counted from 0: the words, the number of earlier x and these, the number of earlier y and these.
use Rattle.std.specs.Prelude.{cond, List, [], ◌∷◌, ◌++◌, ℕ, ◌+◌, ◌-◌, eqb, leb, ltb, length, get_or}
use Rattle.lists.specs.Put.{fronted_into}
use Rattle.columns.specs.Layout.{word_count}
use Rattle.input.specs.declared.Fault.{Fault}
use Rattle.input.specs.declared.Fault.TheVariants.{NotANumber, TooLarge, Outside, LongList, Missing, Extra}
use Rattle.input.specs.Input.{count_x, count_y}
use Rattle.text.specs.Decimal.{decimal_of}
use Rattle.replies.specs.Labels.{labels_of}
use Rattle.replies.specs.Names.{names}

-- ---- at which number
-- "word "
abbrev pub word_word : List ℕ
word_word = 119 ∷ 111 ∷ 114 ∷ 100 ∷ 32 ∷ []

-- " ("
abbrev pub open_bracket : List ℕ
open_bracket = 32 ∷ 40 ∷ []

-- ")"
abbrev pub close_bracket : List ℕ
close_bracket = 41 ∷ []

-- "number of earlier x"
abbrev pub number_of_x : List ℕ
number_of_x = 110 ∷ 117 ∷ 109 ∷ 98 ∷ 101 ∷ 114 ∷ 32 ∷ 111 ∷ 102 ∷ 32 ∷ 101 ∷ 97 ∷ 114 ∷ 108 ∷ 105 ∷ 101 ∷ 114 ∷ 32 ∷ 120 ∷ []

-- "earlier x "
abbrev pub earlier_x : List ℕ
earlier_x = 101 ∷ 97 ∷ 114 ∷ 108 ∷ 105 ∷ 101 ∷ 114 ∷ 32 ∷ 120 ∷ 32 ∷ []

-- "number of earlier y"
abbrev pub number_of_y : List ℕ
number_of_y = 110 ∷ 117 ∷ 109 ∷ 98 ∷ 101 ∷ 114 ∷ 32 ∷ 111 ∷ 102 ∷ 32 ∷ 101 ∷ 97 ∷ 114 ∷ 108 ∷ 105 ∷ 101 ∷ 114 ∷ 32 ∷ 121 ∷ []

-- "earlier y "
abbrev pub earlier_y : List ℕ
earlier_y = 101 ∷ 97 ∷ 114 ∷ 108 ∷ 105 ∷ 101 ∷ 114 ∷ 32 ∷ 121 ∷ 32 ∷ []

-- what the word i is called
unfoldable pub label_of : ℕ → List ℕ
label_of i = get_or (labels_of names) i []

-- "word 64 (Home 1 x)"
unfoldable pub word_text : ℕ → List ℕ
word_text i = word_word ++ (decimal_of i ++ (open_bracket ++ (label_of i ++ close_bracket)))

-- where the number i stands, if there are nx earlier x: a word, the number of a list, or one of a list, counted from 1
unfoldable pub place_at : ℕ → ℕ → List ℕ
place_at nx i =
    cond (ltb i word_count) (word_text i)
    (cond (eqb i count_x) number_of_x
    (cond (leb i (count_x + nx)) (earlier_x ++ decimal_of (i - count_x))
    (cond (eqb i (count_y nx)) number_of_y (earlier_y ++ decimal_of (i - count_y nx)))))

-- by the numbers
unfoldable pub place_text : List ℕ → ℕ → List ℕ
place_text ns i = place_at (get_or ns count_x 0) i

-- ---- what is wrong
-- "not a number from 0 to 4294967295; a float is written as its bit pattern"
abbrev pub not_a_number : List ℕ
not_a_number = 110 ∷ 111 ∷ 116 ∷ 32 ∷ 97 ∷ 32 ∷ 110 ∷ 117 ∷ 109 ∷ 98 ∷ 101 ∷ 114 ∷ 32 ∷ 102 ∷ 114 ∷ 111 ∷ 109 ∷ 32 ∷ 48 ∷ 32 ∷ 116 ∷ 111 ∷ 32 ∷ 52 ∷ 50 ∷ 57 ∷ 52 ∷ 57 ∷ 54 ∷ 55 ∷ 50 ∷ 57 ∷ 53 ∷ 59 ∷ 32 ∷ 97 ∷ 32 ∷ 102 ∷ 108 ∷ 111 ∷ 97 ∷ 116 ∷ 32 ∷ 105 ∷ 115 ∷ 32 ∷ 119 ∷ 114 ∷ 105 ∷ 116 ∷ 116 ∷ 101 ∷ 110 ∷ 32 ∷ 97 ∷ 115 ∷ 32 ∷ 105 ∷ 116 ∷ 115 ∷ 32 ∷ 98 ∷ 105 ∷ 116 ∷ 32 ∷ 112 ∷ 97 ∷ 116 ∷ 116 ∷ 101 ∷ 114 ∷ 110 ∷ []

-- "greater than 4294967295"
abbrev pub too_large : List ℕ
too_large = 103 ∷ 114 ∷ 101 ∷ 97 ∷ 116 ∷ 101 ∷ 114 ∷ 32 ∷ 116 ∷ 104 ∷ 97 ∷ 110 ∷ 32 ∷ 52 ∷ 50 ∷ 57 ∷ 52 ∷ 57 ∷ 54 ∷ 55 ∷ 50 ∷ 57 ∷ 53 ∷ []

-- " is none of its values"
abbrev pub outside : List ℕ
outside = 32 ∷ 105 ∷ 115 ∷ 32 ∷ 110 ∷ 111 ∷ 110 ∷ 101 ∷ 32 ∷ 111 ∷ 102 ∷ 32 ∷ 105 ∷ 116 ∷ 115 ∷ 32 ∷ 118 ∷ 97 ∷ 108 ∷ 117 ∷ 101 ∷ 115 ∷ []

-- " is more than 4097"
abbrev pub long_list : List ℕ
long_list = 32 ∷ 105 ∷ 115 ∷ 32 ∷ 109 ∷ 111 ∷ 114 ∷ 101 ∷ 32 ∷ 116 ∷ 104 ∷ 97 ∷ 110 ∷ 32 ∷ 52 ∷ 48 ∷ 57 ∷ 55 ∷ []

-- "missing"
abbrev pub missing : List ℕ
missing = 109 ∷ 105 ∷ 115 ∷ 115 ∷ 105 ∷ 110 ∷ 103 ∷ []

-- "more than the situation has"
abbrev pub extra : List ℕ
extra = 109 ∷ 111 ∷ 114 ∷ 101 ∷ 32 ∷ 116 ∷ 104 ∷ 97 ∷ 110 ∷ 32 ∷ 116 ∷ 104 ∷ 101 ∷ 32 ∷ 115 ∷ 105 ∷ 116 ∷ 117 ∷ 97 ∷ 116 ∷ 105 ∷ 111 ∷ 110 ∷ 32 ∷ 104 ∷ 97 ∷ 115 ∷ []

-- what is wrong with a number; of one that is out of range, the number itself
abbrev pub fault_text : Fault → ℕ → List ℕ
fault_text NotANumber number = not_a_number
fault_text TooLarge number = too_large
fault_text Outside number = decimal_of number ++ outside
fault_text LongList number = decimal_of number ++ long_list
fault_text Missing number = missing
fault_text Extra number = extra

-- ---- the lines
-- ": "
abbrev pub colon : List ℕ
colon = 58 ∷ 32 ∷ []

-- "refused "
abbrev pub refused_word : List ℕ
refused_word = 114 ∷ 101 ∷ 102 ∷ 117 ∷ 115 ∷ 101 ∷ 100 ∷ 32 ∷ []

-- "word 15 (sides): 2 is none of its values", and a line feed
unfoldable pub fault_line : List ℕ → ℕ → Fault → List ℕ
fault_line ns i fault = place_text ns i ++ (colon ++ (fault_text fault (get_or ns i 0) ++ (10 ∷ [])))

-- "refused 5", and a line feed
unfoldable pub refused_line : ℕ → List ℕ
refused_line n = refused_word ++ (decimal_of n ++ (10 ∷ []))

-- lent bytes with a text at their front; those that are fewer than the text are as they were
abbrev pub line_in : List ℕ → List ℕ → List ℕ
line_in text out = fronted_into text out

-- how many bytes are then written
unfoldable pub written_in : List ℕ → List ℕ → ℕ
written_in text out = cond (ltb (length out) (length text)) 0 (length text)
