-- The greatest lengths of a line. Assumes nothing.
use mathlib.Core.Path.{◌≡◌, refl}
use mathlib.Core.Bool.{Bool, true, false, cond}
use mathlib.Core.List.{List, ◌++◌}
use Prim.Native.Nat.{ℕ, ◌+◌, ◌-◌, ◌≤◌, ◌<◌}
use native.Mathlib.Omega.{arith}
use borrow.Author.Tests.{ltb-true}
use lib.Dec.{eqb, leb, ltb}
use lib.ListN.{length, get_or, length-append}
use Rattle.columns.specs.Layout.{word_count}
use Rattle.input.specs.declared.Fault.{Fault}
use Rattle.input.specs.declared.Fault.TheVariants.{NotANumber, TooLarge, Outside, LongList, Missing, Extra}
use Rattle.input.specs.Input.{count_x, count_y}
use Rattle.text.specs.Decimal.{decimal_of}
use Rattle.text.proofs.Decimal.{decimal_most}
use Rattle.replies.specs.Replies.{number_of_x, earlier_x, number_of_y, earlier_y, word_text, place_at, place_text, outside, long_list, fault_text, fault_line, refused_line}
use Rattle.replies.proofs.Texts.{label_few}

-- ---- where a number stands
word_few : (i : ℕ) → i < word_count → length (word_text i) ≤ 108
unfolding word_text
word_few i h = simp length-append (omega (arith, decimal_most 20 i, label_few i h))

-- a number that is no word
other_few : (m n : ℕ) (a b c : Bool) → length (cond a number_of_x (cond b (earlier_x ++ decimal_of m) (cond c number_of_y (earlier_y ++ decimal_of n)))) ≤ 108
other_few m n true b c = omega arith
other_few m n false true c = omega (arith, length-append earlier_x (decimal_of m), decimal_most 20 m)
other_few m n false false true = omega arith
other_few m n false false false = omega (arith, length-append earlier_y (decimal_of n), decimal_most 20 n)

place_few : (nx i : ℕ) → length (place_at nx i) ≤ 108
unfolding place_at
place_few nx i = go (ltb i word_count) refl
  where
    go : (b : Bool) → ltb i word_count ≡ b → length (cond b (word_text i) (cond (eqb i count_x) number_of_x (cond (leb i (count_x + nx)) (earlier_x ++ decimal_of (i - count_x)) (cond (eqb i (count_y nx)) number_of_y (earlier_y ++ decimal_of (i - count_y nx)))))) ≤ 108
    go true e = word_few i (ltb-true i word_count e)
    go false e = other_few (i - count_x) (i - count_y nx) (eqb i count_x) (leb i (count_x + nx)) (eqb i (count_y nx))

-- ---- what is wrong
fault_few : (fault : Fault) (number : ℕ) → length (fault_text fault number) ≤ 80
fault_few NotANumber number = omega arith
fault_few TooLarge number = omega arith
fault_few Outside number = omega (arith, length-append (decimal_of number) outside, decimal_most 20 number)
fault_few LongList number = omega (arith, length-append (decimal_of number) long_list, decimal_most 20 number)
fault_few Missing number = omega arith
fault_few Extra number = omega arith

-- ---- the lines
pub fault_line_few : (ns : List ℕ) (i : ℕ) (fault : Fault) → length (fault_line ns i fault) ≤ 256
unfolding fault_line place_text
fault_line_few ns i fault = simp length-append (omega (arith, place_few (get_or ns count_x 0) i, fault_few fault (get_or ns i 0)))

pub refused_line_few : (n : ℕ) → length (refused_line n) ≤ 256
unfolding refused_line
refused_line_few n = simp length-append (omega (arith, decimal_most 20 n))
