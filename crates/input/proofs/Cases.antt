-- Texts, byte by byte, and numbers, evaluated by the definitions.
use mathlib.Core.Path.{◌≡◌, refl}
use mathlib.Core.List.{List, [], ◌∷◌, ◌++◌}
use Prim.Native.Nat.{ℕ, zero, suc, ◌+◌}
use lib.ListN.{length, replicate}
use Rattle.std.specs.Prelude.{Result}
use Rattle.lists.specs.Gather.{flat_to}
use Rattle.columns.specs.Layout.{word_count, layout, columns_of, columns}
use Rattle.columns.specs.Columns.{front_to, front_within, words_within}
use Rattle.numbers.specs.Numbers.{pieces, non_empty, all_digits, value_from, numbers_in, reading_from}
use Rattle.input.specs.declared.Lists.{Lists}
use Rattle.input.specs.declared.Wrong.{Wrong}
use Rattle.input.specs.declared.Fault.TheVariants.{NotANumber, Outside, LongList, Missing, Extra}
use Rattle.input.specs.Input.{lists_of, wrong_at, after_counts, after_x, after_words, with_words, input_of}

-- the empty text, "x" and "5"
short : (input_of [] ≡ wrong_at 0 Missing) × (input_of (120 ∷ []) ≡ wrong_at 0 NotANumber) × (input_of (53 ∷ []) ≡ wrong_at 1 Missing)
unfolding pieces non_empty all_digits value_from numbers_in reading_from flat_to layout columns_of columns front_to front_within words_within after_counts after_x after_words with_words input_of
short = (refl, refl, refl)

-- "0 0 .. 0 ", so many
unfoldable zeros : ℕ → List ℕ
zeros zero = []
zeros (suc n) = 48 ∷ 32 ∷ zeros n

-- the word 15, the sides, is 2
sides : input_of (zeros 15 ++ (50 ∷ [])) ≡ wrong_at 15 Outside
unfolding pieces non_empty all_digits value_from numbers_in reading_from flat_to layout columns_of columns front_to front_within words_within after_counts after_x after_words with_words input_of zeros
sides = refl

-- "1 7 0" after the words: one x
one_x : input_of (zeros word_count ++ (49 ∷ 32 ∷ 55 ∷ 32 ∷ 48 ∷ [])) ≡ lists_of 1 0
unfolding pieces non_empty all_digits value_from numbers_in reading_from flat_to layout columns_of columns front_to front_within words_within after_counts after_x after_words with_words input_of zeros
one_x = refl

-- what numbers after the words are
after_zeros : List ℕ → Result Lists Wrong
after_zeros ns = after_words (replicate word_count 0 ++ ns) (word_count + length ns)

-- no list; one x and two y, and with a number less and a number more
lists : (after_zeros (0 ∷ 0 ∷ []) ≡ lists_of 0 0) × (after_zeros (1 ∷ 7 ∷ 2 ∷ 8 ∷ 9 ∷ []) ≡ lists_of 1 2) × (after_zeros (1 ∷ 7 ∷ 2 ∷ 8 ∷ []) ≡ wrong_at 567 Missing) × (after_zeros (1 ∷ 7 ∷ 2 ∷ 8 ∷ 9 ∷ 9 ∷ []) ≡ wrong_at 568 Extra)
unfolding after_zeros after_counts after_x after_words
lists = (refl, refl, refl, refl)

-- lists of 4,097, of which nothing is there, and of 4,098
longest : (after_zeros (4097 ∷ []) ≡ wrong_at 564 Missing) × (after_zeros (4098 ∷ []) ≡ wrong_at 563 LongList) × (after_zeros (0 ∷ 4097 ∷ []) ≡ wrong_at 565 Missing) × (after_zeros (0 ∷ 4098 ∷ []) ≡ wrong_at 564 LongList)
unfolding after_zeros after_counts after_x after_words
longest = (refl, refl, refl, refl)
