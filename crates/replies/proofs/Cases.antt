-- Texts, byte by byte, evaluated by the definitions.
use mathlib.Core.Path.{◌≡◌, refl}
use mathlib.Core.List.{[], ◌∷◌, ◌++◌}
use lib.ListN.{replicate}
use Rattle.lists.specs.Gather.{flat_to}
use Rattle.input.specs.declared.Fault.TheVariants.{LongList}
use Rattle.text.specs.Decimal.{decimal_from, decimal_of}
use Rattle.replies.specs.Labels.{after, labels_of}
use Rattle.replies.specs.Names.{names}
use Rattle.replies.specs.Replies.{label_of, word_text, place_at, place_text, fault_line, refused_line}

-- "0"
none : decimal_of 0 ≡ 48 ∷ []
unfolding decimal_from
none = refl

-- "7"
seven : decimal_of 7 ≡ 55 ∷ []
unfolding decimal_from
seven = refl

-- "10"
ten : decimal_of 10 ≡ 49 ∷ 48 ∷ []
unfolding decimal_from
ten = refl

-- "563"
three_digits : decimal_of 563 ≡ 53 ∷ 54 ∷ 51 ∷ []
unfolding decimal_from
three_digits = refl

-- "4294967295"
most : decimal_of 4294967295 ≡ 52 ∷ 50 ∷ 57 ∷ 52 ∷ 57 ∷ 54 ∷ 55 ∷ 50 ∷ 57 ∷ 53 ∷ []
unfolding decimal_from
most = refl

-- "word 64 (Home 1 x)"
home_x : place_at 0 64 ≡ 119 ∷ 111 ∷ 114 ∷ 100 ∷ 32 ∷ 54 ∷ 52 ∷ 32 ∷ 40 ∷ 72 ∷ 111 ∷ 109 ∷ 101 ∷ 32 ∷ 49 ∷ 32 ∷ 120 ∷ 41 ∷ []
unfolding decimal_from flat_to after labels_of names label_of word_text place_at
home_x = refl

-- "word 462 (Away 20 reference radius)"
away_reference : place_at 0 462 ≡ 119 ∷ 111 ∷ 114 ∷ 100 ∷ 32 ∷ 52 ∷ 54 ∷ 50 ∷ 32 ∷ 40 ∷ 65 ∷ 119 ∷ 97 ∷ 121 ∷ 32 ∷ 50 ∷ 48 ∷ 32 ∷ 114 ∷ 101 ∷ 102 ∷ 101 ∷ 114 ∷ 101 ∷ 110 ∷ 99 ∷ 101 ∷ 32 ∷ 114 ∷ 97 ∷ 100 ∷ 105 ∷ 117 ∷ 115 ∷ 41 ∷ []
unfolding decimal_from flat_to after labels_of names label_of word_text place_at
away_reference = refl

-- "word 22 (Away goalkeeper)"
away_goalkeeper : place_at 0 22 ≡ 119 ∷ 111 ∷ 114 ∷ 100 ∷ 32 ∷ 50 ∷ 50 ∷ 32 ∷ 40 ∷ 65 ∷ 119 ∷ 97 ∷ 121 ∷ 32 ∷ 103 ∷ 111 ∷ 97 ∷ 108 ∷ 107 ∷ 101 ∷ 101 ∷ 112 ∷ 101 ∷ 114 ∷ 41 ∷ []
unfolding decimal_from flat_to after labels_of names label_of word_text place_at
away_goalkeeper = refl

-- "word 562 (wished player)"
last_word : place_at 0 562 ≡ 119 ∷ 111 ∷ 114 ∷ 100 ∷ 32 ∷ 53 ∷ 54 ∷ 50 ∷ 32 ∷ 40 ∷ 119 ∷ 105 ∷ 115 ∷ 104 ∷ 101 ∷ 100 ∷ 32 ∷ 112 ∷ 108 ∷ 97 ∷ 121 ∷ 101 ∷ 114 ∷ 41 ∷ []
unfolding decimal_from flat_to after labels_of names label_of word_text place_at
last_word = refl

-- "number of earlier x"
count_of_x : place_at 3 563 ≡ 110 ∷ 117 ∷ 109 ∷ 98 ∷ 101 ∷ 114 ∷ 32 ∷ 111 ∷ 102 ∷ 32 ∷ 101 ∷ 97 ∷ 114 ∷ 108 ∷ 105 ∷ 101 ∷ 114 ∷ 32 ∷ 120 ∷ []
unfolding decimal_from flat_to after labels_of names label_of word_text place_at
count_of_x = refl

-- "earlier x 3"
third_x : place_at 3 566 ≡ 101 ∷ 97 ∷ 114 ∷ 108 ∷ 105 ∷ 101 ∷ 114 ∷ 32 ∷ 120 ∷ 32 ∷ 51 ∷ []
unfolding decimal_from flat_to after labels_of names label_of word_text place_at
third_x = refl

-- "number of earlier y"
count_of_y : place_at 3 567 ≡ 110 ∷ 117 ∷ 109 ∷ 98 ∷ 101 ∷ 114 ∷ 32 ∷ 111 ∷ 102 ∷ 32 ∷ 101 ∷ 97 ∷ 114 ∷ 108 ∷ 105 ∷ 101 ∷ 114 ∷ 32 ∷ 121 ∷ []
unfolding decimal_from flat_to after labels_of names label_of word_text place_at
count_of_y = refl

-- "earlier y 1"
first_y : place_at 3 568 ≡ 101 ∷ 97 ∷ 114 ∷ 108 ∷ 105 ∷ 101 ∷ 114 ∷ 32 ∷ 121 ∷ 32 ∷ 49 ∷ []
unfolding decimal_from flat_to after labels_of names label_of word_text place_at
first_y = refl

-- "number of earlier y: 5000 is more than 4097", and a line feed
long_y : fault_line (replicate 564 0 ++ (5000 ∷ [])) 564 LongList ≡ 110 ∷ 117 ∷ 109 ∷ 98 ∷ 101 ∷ 114 ∷ 32 ∷ 111 ∷ 102 ∷ 32 ∷ 101 ∷ 97 ∷ 114 ∷ 108 ∷ 105 ∷ 101 ∷ 114 ∷ 32 ∷ 121 ∷ 58 ∷ 32 ∷ 53 ∷ 48 ∷ 48 ∷ 48 ∷ 32 ∷ 105 ∷ 115 ∷ 32 ∷ 109 ∷ 111 ∷ 114 ∷ 101 ∷ 32 ∷ 116 ∷ 104 ∷ 97 ∷ 110 ∷ 32 ∷ 52 ∷ 48 ∷ 57 ∷ 55 ∷ 10 ∷ []
unfolding decimal_from flat_to after labels_of names label_of word_text place_at place_text fault_line
long_y = refl

-- "refused 5", and a line feed
five : refused_line 5 ≡ 114 ∷ 101 ∷ 102 ∷ 117 ∷ 115 ∷ 101 ∷ 100 ∷ 32 ∷ 53 ∷ 10 ∷ []
unfolding decimal_from refused_line
five = refl
