-- The numbers of a text as a situation, or what is wrong with them: the words, the number of earlier x and their patterns, the number of earlier y and theirs. Definitions only.
-- ns are the numbers and n is how many they are. A fault stands at a number, counted from 0.
use Rattle.std.specs.Prelude.{cond, Result, Ok, Err, List, ℕ, ◌+◌, ◌*◌, min, leb, ltb, Float, length, take, get_or}
use Rattle.std.specs.Float.{binary32}
use Rattle.std.specs.Float.Ieee.{of_bits}
use Rattle.lists.specs.Put.{fronted}
use Rattle.lists.specs.Table.{table}
use Rattle.columns.specs.Layout.{word_count}
use Rattle.columns.specs.Columns.{words_within}
use Rattle.numbers.specs.declared.Unread.{Unread}
use Rattle.numbers.specs.declared.Unread.TheVariants as Numbers
use Rattle.numbers.specs.Numbers.{numbers_of, reading_of}
use Rattle.input.specs.declared.Lists.{Lists}
use Rattle.input.specs.declared.Wrong.{Wrong}
use Rattle.input.specs.declared.Fault.{Fault}
use Rattle.input.specs.declared.Fault.TheVariants.{NotANumber, TooLarge, Outside, LongList, Missing, Extra}

-- the most earlier places of a list
abbrev pub most_places : ℕ
most_places = 4097

-- the place, from 0, of the number of earlier x, of the first of them, and of the first earlier y where there are no earlier x
abbrev pub count_x : ℕ
count_x = word_count

abbrev pub first_x : ℕ
first_x = word_count + 1

abbrev pub first_y : ℕ
first_y = word_count + 2

-- the place of the number of earlier y after nx earlier x
abbrev pub count_y : ℕ → ℕ
count_y nx = first_x + nx

-- how many numbers there are with nx earlier x and ny earlier y, and at most
abbrev pub numbers_for : ℕ → ℕ → ℕ
numbers_for nx ny = first_y + nx + ny

abbrev pub most_numbers : ℕ
most_numbers = first_y + 2 * most_places

-- the answer where there are nx earlier x and ny earlier y
abbrev pub lists_of : ℕ → ℕ → Result Lists Wrong
lists_of nx ny = Ok (record { xs = nx; ys = ny })

-- the fault of the number at a place
abbrev pub wrong_at : {A : Type 0} → ℕ → Fault → Result A Wrong
wrong_at i fault = Err (record { place = i; fault = fault })

-- with nx earlier x and ny earlier y there must be just so many numbers
unfoldable pub after_counts : ℕ → ℕ → ℕ → Result Lists Wrong
after_counts n nx ny = cond (ltb n (numbers_for nx ny)) (wrong_at n Missing) (cond (ltb (numbers_for nx ny) n) (wrong_at (numbers_for nx ny) Extra) (lists_of nx ny))

-- what comes after the number of a list, which stands at a place; it may be missing, or more than the most
abbrev pub with_list : {A : Type 0} → List ℕ → ℕ → ℕ → (ℕ → Result A Wrong) → Result A Wrong
with_list ns n at next = cond (leb n at) (wrong_at n Missing) (cond (ltb most_places (get_or ns at 0)) (wrong_at at LongList) (next (get_or ns at 0)))

-- with nx earlier x: the number after these is that of the earlier y
unfoldable pub after_x : List ℕ → ℕ → ℕ → Result Lists Wrong
after_x ns n nx = with_list ns n (count_y nx) (λ ny. after_counts n nx ny)

-- the number after the words is that of the earlier x
unfoldable pub after_words : List ℕ → ℕ → Result Lists Wrong
after_words ns n = with_list ns n count_x (λ nx. after_x ns n nx)

-- w words are within their columns before the first that is not; these must be all the words that are there
unfoldable pub with_words : List ℕ → ℕ → ℕ → Result Lists Wrong
with_words ns n w = cond (ltb w (min n word_count)) (wrong_at w Outside) (after_words ns n)

-- what is wrong where a text is not read
abbrev pub wrong_of : Unread → Wrong
wrong_of (Numbers.NotANumber i) = record { place = i; fault = NotANumber }
wrong_of (Numbers.TooLarge i) = record { place = i; fault = TooLarge }

-- what a text is by its reading and its numbers; of a whole reading, the words come first
abbrev pub laid_out : Result ℕ Unread → List ℕ → Result Lists Wrong
laid_out (Ok n) ns = with_words ns n (words_within (take word_count ns))
laid_out (Err unread) ns = Err (wrong_of unread)

-- how many earlier x and earlier y a text has, or what is wrong with it
unfoldable pub input_of : List ℕ → Result Lists Wrong
input_of text = laid_out (reading_of text) (numbers_of text)

-- the places with the patterns' floats at their front, as many as both have
unfoldable pub places_in : List ℕ → List Float → List Float
places_in patterns places = fronted (table (min (length patterns) (length places)) (λ k. of_bits binary32 (get_or patterns k 0))) places
