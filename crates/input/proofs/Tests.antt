-- What each test on the numbers says of the definition, in their order. Assumes nothing.
use mathlib.Core.Path.{◌≡◌, ap}
use mathlib.Core.Bool.{Bool, true, false, cond}
use mathlib.Core.List.{List}
use Prim.Native.Nat.{ℕ, ◌≤◌, ◌<◌, min}
use borrow.Author.Tests.{lt-ltb, le-ltb}
use lib.Dec.{leb, ltb}
use lib.ListN.{get_or}
use Rattle.std.specs.Prelude.{Result, Ok, Err}
use Rattle.columns.specs.Layout.{word_count}
use Rattle.input.specs.declared.Lists.{Lists}
use Rattle.input.specs.declared.Wrong.{Wrong}
use Rattle.input.specs.declared.Fault.TheVariants.{Outside, LongList, Missing, Extra}
use Rattle.input.specs.Input.{lists_of, wrong_at, most_places, numbers_for, after_counts, with_list, after_words, with_words}

module _ (n nx ny : ℕ) where
  pub too_few : n < numbers_for nx ny → wrong_at n Missing ≡ after_counts n nx ny
  unfolding after_counts
  too_few h = simp (lt-ltb _ _ h)

  pub too_many : numbers_for nx ny < n → numbers_for nx ny ≤ n → wrong_at (numbers_for nx ny) Extra ≡ after_counts n nx ny
  unfolding after_counts
  too_many h g = simp (le-ltb _ _ g, lt-ltb _ _ h)

  pub just_so_many : numbers_for nx ny ≤ n → n ≤ numbers_for nx ny → lists_of nx ny ≡ after_counts n nx ny
  unfolding after_counts
  just_so_many g h = simp (le-ltb _ _ g, le-ltb _ _ h)

-- the number of a list
module _ (n at k : ℕ) (next : ℕ → Result Lists Wrong) where
  wrong_on : (w : Wrong) (a b : Bool) → Err w ≡ cond a (wrong_at n Missing) (cond b (wrong_at at LongList) (Ok k)) → Err w ≡ cond a (wrong_at n Missing) (cond b (wrong_at at LongList) (next k))
  wrong_on w true b e = let same : ◌≡◌ {A = Wrong} w (record { place = n; fault = Missing }) = cc in ap Err same
  wrong_on w false true e = let same : ◌≡◌ {A = Wrong} w (record { place = at; fault = LongList }) = cc in ap Err same
  wrong_on w false false e = absurd cc

  known_on : (l : ℕ) (a b : Bool) → Ok l ≡ cond a (wrong_at n Missing) (cond b (wrong_at at LongList) (Ok k)) → next l ≡ cond a (wrong_at n Missing) (cond b (wrong_at at LongList) (next k))
  known_on l true b e = absurd cc
  known_on l false true e = absurd cc
  known_on l false false e = let same : l ≡ k = cc in ap next same

module _ (ns : List ℕ) (n : ℕ) where
  -- what is wrong with it, and what comes after it
  pub list_wrong : (at : ℕ) (next : ℕ → Result Lists Wrong) (w : Wrong) → Err w ≡ with_list ns n at Ok → Err w ≡ with_list ns n at next
  list_wrong at next w e = wrong_on n at (get_or ns at 0) next w (leb n at) (ltb most_places (get_or ns at 0)) e

  pub list_known : (at : ℕ) (next : ℕ → Result Lists Wrong) (l : ℕ) → Ok l ≡ with_list ns n at Ok → next l ≡ with_list ns n at next
  list_known at next l e = known_on n at (get_or ns at 0) next l (leb n at) (ltb most_places (get_or ns at 0)) e

  pub outside : (w : ℕ) → w < min n word_count → wrong_at w Outside ≡ with_words ns n w
  unfolding with_words
  outside w h = simp (lt-ltb _ _ h)

  pub all_inside : (w : ℕ) → min n word_count ≤ w → after_words ns n ≡ with_words ns n w
  unfolding with_words
  all_inside w h = simp (le-ltb _ _ h)
