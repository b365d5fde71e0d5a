-- Texts, byte by byte, evaluated by the definitions.
use mathlib.Core.Path.{◌≡◌, refl}
use mathlib.Core.List.{List, [], ◌∷◌, ◌++◌}
use Prim.Native.Nat.{ℕ, zero, suc}
use Rattle.std.specs.Prelude.{Ok, Err}
use Rattle.lists.specs.Put.{fronted}
use Rattle.numbers.specs.declared.Unread.TheVariants.{NotANumber, TooLarge}
use Rattle.numbers.specs.Numbers.{pieces, non_empty, all_digits, value_from, numbers_in, reading_from, numbers_of, reading_of, stored}

-- "", and a blank, a tab, a line feed and a carriage return
empty : reading_of [] ≡ Ok 0
unfolding pieces non_empty reading_from
empty = refl

separators : reading_of (32 ∷ 9 ∷ 10 ∷ 13 ∷ []) ≡ Ok 0
unfolding pieces non_empty reading_from
separators = refl

-- "7 08\n": a leading zero
unfoldable seven_eight : List ℕ
seven_eight = 55 ∷ 32 ∷ 48 ∷ 56 ∷ 10 ∷ []

two_read : reading_of seven_eight ≡ Ok 2
unfolding seven_eight pieces non_empty all_digits value_from reading_from
two_read = refl

two_numbers : numbers_of seven_eight ≡ 7 ∷ 8 ∷ []
unfolding seven_eight pieces non_empty all_digits value_from numbers_in
two_numbers = refl

-- into a buffer of three, and of one
two_stored : stored (numbers_of seven_eight) (1 ∷ 2 ∷ 3 ∷ []) ≡ 7 ∷ 8 ∷ 3 ∷ []
unfolding seven_eight pieces non_empty all_digits value_from numbers_in stored fronted
two_stored = refl

one_stored : stored (numbers_of seven_eight) (1 ∷ []) ≡ 7 ∷ []
unfolding seven_eight pieces non_empty all_digits value_from numbers_in stored fronted
one_stored = refl

-- "1 x 2": the fault, and the number before it
unfoldable faulty : List ℕ
faulty = 49 ∷ 32 ∷ 120 ∷ 32 ∷ 50 ∷ []

fault_named : reading_of faulty ≡ Err (NotANumber 1)
unfolding faulty pieces non_empty all_digits value_from reading_from
fault_named = refl

before_fault : numbers_of faulty ≡ 1 ∷ []
unfolding faulty pieces non_empty all_digits value_from numbers_in
before_fault = refl

-- "-3", "1,2" and "1", a tab, "2"; "1", a vertical tab, "2"
minus : reading_of (45 ∷ 51 ∷ []) ≡ Err (NotANumber 0)
unfolding pieces non_empty all_digits value_from reading_from
minus = refl

comma : reading_of (49 ∷ 44 ∷ 50 ∷ []) ≡ Err (NotANumber 0)
unfolding pieces non_empty all_digits value_from reading_from
comma = refl

tab : reading_of (49 ∷ 9 ∷ 50 ∷ []) ≡ Ok 2
unfolding pieces non_empty all_digits value_from reading_from
tab = refl

vertical_tab : reading_of (49 ∷ 11 ∷ 50 ∷ []) ≡ Err (NotANumber 0)
unfolding pieces non_empty all_digits value_from reading_from
vertical_tab = refl

-- "429496729", the digits of 2^32 but the last one
unfoldable most : List ℕ
most = 52 ∷ 50 ∷ 57 ∷ 52 ∷ 57 ∷ 54 ∷ 55 ∷ 50 ∷ 57 ∷ []

-- 4294967295
largest : numbers_of (most ++ (53 ∷ [])) ≡ 4294967295 ∷ []
unfolding most pieces non_empty all_digits value_from numbers_in
largest = refl

-- 4294967296
past_largest : reading_of (most ++ (54 ∷ [])) ≡ Err (TooLarge 0)
unfolding most pieces non_empty all_digits value_from reading_from
past_largest = refl

-- 4294967296a: a wrong byte counts before the size
past_and_wrong : reading_of (most ++ (54 ∷ 97 ∷ [])) ≡ Err (NotANumber 0)
unfolding most pieces non_empty all_digits value_from reading_from
past_and_wrong = refl

-- so many nines
unfoldable nines : ℕ → List ℕ
nines zero = []
nines (suc n) = 57 ∷ nines n

thousand_digits : reading_of (nines 1000) ≡ Err (TooLarge 0)
unfolding nines pieces non_empty all_digits value_from reading_from
thousand_digits = refl
