-- Numbers read into a buffer that has room for the most are laid out as the numbers of the text are: no test looks past the numbers that there are, or past the buffer. Assumes nothing.
use mathlib.Core.Path.{◌≡◌, refl, ap, sym, ◌∙◌}
use mathlib.Core.Bool.{Bool, true, false, cond}
use mathlib.Core.List.{List}
use Prim.Native.Nat.{ℕ, suc, ◌≤◌, ◌<◌, min}
use native.Mathlib.Omega.{arith}
use borrow.Author.Tests.{ltb-false, leb-true, leb-false}
use lib.Dec.{ltb, leb}
use lib.ListN.{length, take, get_or, length-take, get_or-append}
use lib.Seq.{take_all, take-append-le, get_or-take, take-take}
use Rattle.std.specs.Prelude.{Result, Ok, Err}
use Rattle.lists.specs.Put.{fronted}
use Rattle.columns.specs.Layout.{word_count}
use Rattle.columns.specs.Columns.{words_within}
use Rattle.numbers.specs.declared.Unread.{Unread}
use Rattle.numbers.specs.Numbers.{numbers_of, reading_of, stored}
use Rattle.numbers.proofs.Count.{read_count}
use Rattle.input.specs.declared.Lists.{Lists}
use Rattle.input.specs.declared.Wrong.{Wrong}
use Rattle.input.specs.declared.Fault.TheVariants.{LongList, Missing, Outside}
use Rattle.input.specs.Input.{wrong_at, most_places, count_x, count_y, most_numbers, after_counts, after_x, after_words, with_words, wrong_of, laid_out, input_of}

-- ---- a number, and a front
module _ (ns buffer : List ℕ) where
  long : (m : ℕ) → m ≤ length ns → m ≤ length buffer → m ≤ length (take (length buffer) ns)
  long m a b = simp length-take (omega arith)

  pub stored_at : (k : ℕ) → k < length ns → k < length buffer → get_or (stored ns buffer) k 0 ≡ get_or ns k 0
  unfolding stored fronted
  stored_at k a b = get_or-append (take (length buffer) ns) _ 0 k (long (suc k) a b) ∙ get_or-take (length buffer) ns k 0 b

  pub stored_front : (m : ℕ) → m ≤ length ns → m ≤ length buffer → take m (stored ns buffer) ≡ take m ns
  unfolding stored fronted
  stored_front m a b = take-append-le m (take (length buffer) ns) _ (long m a b) ∙ take-take m (length buffer) ns b

-- ---- the tests, over two lists that agree below n and in the buffer
module _ (ms ns : List ℕ) (n : ℕ) (same : (k : ℕ) → k < n → k < most_numbers → get_or ms k 0 ≡ get_or ns k 0) where
  same_x : (nx : ℕ) → nx ≤ most_places → after_x ms n nx ≡ after_x ns n nx
  unfolding after_x
  same_x nx few = go (leb n (count_y nx)) refl
    where
      past : ℕ → Result Lists Wrong
      past ny = cond (ltb most_places ny) (wrong_at (count_y nx) LongList) (after_counts n nx ny)

      go : (b : Bool) → leb n (count_y nx) ≡ b → cond b (wrong_at n Missing) (past (get_or ms (count_y nx) 0)) ≡ cond b (wrong_at n Missing) (past (get_or ns (count_y nx) 0))
      go true e = refl
      go false e = ap past (same (count_y nx) (omega (arith, leb-false n (count_y nx) e)) (omega arith))

  same_words : after_words ms n ≡ after_words ns n
  unfolding after_words
  same_words = go (leb n count_x) refl
    where
      past : List ℕ → ℕ → Result Lists Wrong
      past l nx = cond (ltb most_places nx) (wrong_at count_x LongList) (after_x l n nx)

      few : (nx : ℕ) (b : Bool) → ltb most_places nx ≡ b → cond b (wrong_at count_x LongList) (after_x ms n nx) ≡ cond b (wrong_at count_x LongList) (after_x ns n nx)
      few nx true e = refl
      few nx false e = same_x nx (ltb-false most_places nx e)

      go : (b : Bool) → leb n count_x ≡ b → cond b (wrong_at n Missing) (past ms (get_or ms count_x 0)) ≡ cond b (wrong_at n Missing) (past ns (get_or ns count_x 0))
      go true e = refl
      go false e = ap (past ms) (same count_x (omega (arith, leb-false n count_x e)) (omega arith)) ∙ few (get_or ns count_x 0) (ltb most_places (get_or ns count_x 0)) refl

  pub same_all : (w : ℕ) → with_words ms n w ≡ with_words ns n w
  unfolding with_words
  same_all w = ap (cond (ltb w (min n word_count)) (wrong_at w Outside)) same_words

-- ---- the whole
-- the words that are there
there : (ns : List ℕ) (n : ℕ) → length ns ≡ n → take (min n word_count) ns ≡ take word_count ns
there ns n e = go (leb n word_count) refl
  where
    go : (b : Bool) → leb n word_count ≡ b → take (min n word_count) ns ≡ take word_count ns
    go true h = take_all (min n word_count) ns (omega (arith, leb-true n word_count h)) ∙ sym (take_all word_count ns (omega (arith, leb-true n word_count h)))
    go false h = let far : min n word_count ≡ word_count = omega (arith, leb-false n word_count h) in ap (λ (k : ℕ). take k ns) far

stored_laid_out : (ns buffer : List ℕ) (n : ℕ) → length ns ≡ n → length buffer ≡ most_numbers
    → with_words (stored ns buffer) n (words_within (take (min n word_count) (stored ns buffer))) ≡ with_words ns n (words_within (take word_count ns))
stored_laid_out ns buffer n e l =
    ap (λ (ws : List ℕ). with_words (stored ns buffer) n (words_within ws)) (stored_front ns buffer (min n word_count) (omega arith) (omega arith) ∙ there ns n e)
    ∙ same_all (stored ns buffer) ns n (λ k a b. stored_at ns buffer k (omega arith) (omega arith)) _

-- the answer for the numbers ms that were read
pub input_of_read : (text buffer ms : List ℕ) (n : ℕ) (r : Result Lists Wrong) → length buffer ≡ most_numbers → reading_of text ≡ Ok n → ms ≡ stored (numbers_of text) buffer
    → r ≡ with_words ms n (words_within (take (min n word_count) ms)) → r ≡ input_of text
unfolding input_of
input_of_read text buffer ms n r l e em er =
    er ∙ ap (λ (l : List ℕ). with_words l n (words_within (take (min n word_count) l))) em
    ∙ stored_laid_out (numbers_of text) buffer n (read_count text (Ok n) e) l
    ∙ ap (λ (g : Result ℕ Unread). laid_out g (numbers_of text)) (sym e)

-- of a text that is not read
pub input_of_unread : (text : List ℕ) (u : Unread) → reading_of text ≡ Err u → Err (wrong_of u) ≡ input_of text
unfolding input_of
input_of_unread text u e = ap (λ (g : Result ℕ Unread). laid_out g (numbers_of text)) (sym e)
