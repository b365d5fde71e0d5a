-- The count of a reading is that of the numbers, all of them or those before the fault: for a caller that looks at the list. Assumes nothing.
use mathlib.Core.Path.{◌≡◌, ap}
use mathlib.Core.Bool.{Bool, true, false, ◌&&◌}
use mathlib.Core.List.{List, [], ◌∷◌}
use Prim.Native.Nat.{ℕ, ◌+◌}
use native.Mathlib.Omega.{arith}
use lib.ListN.{length}
use Rattle.std.specs.Prelude.{Result}
use Rattle.numbers.specs.declared.Unread.{Unread}
use Rattle.numbers.specs.Numbers.{is_small, all_digits, value_of, then_more, judged, numbers_in, reading_from, fields, numbers_of, reading_of}
use Rattle.numbers.specs.Walk.{field_of}

count_from : (fs : List (List ℕ)) (k : ℕ) → field_of (reading_from k fs) ≡ k + length (numbers_in fs)
unfolding reading_from numbers_in
count_from [] k = omega arith
count_from (f ∷ fs) k = go (all_digits f) (is_small (value_of f)) (count_from fs (k + 1))
  where
    go : (d s : Bool) → field_of (reading_from (k + 1) fs) ≡ k + 1 + length (numbers_in fs)
        → field_of (judged d s k (reading_from (k + 1) fs)) ≡ k + length (then_more (d && s) (value_of f) (numbers_in fs))
    go false s more = omega arith
    go true false more = omega arith
    go true true more = omega arith

pub read_count : (text : List ℕ) (r : Result ℕ Unread) → reading_of text ≡ r → length (numbers_of text) ≡ field_of r
read_count text r e = let all = count_from (fields text) 0 in let same : field_of (reading_of text) ≡ field_of r = ap field_of e in omega arith
