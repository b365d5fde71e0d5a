-- The tests come in the order of the definition, and each count is the number in the slice.
use Rattle.std.specs.Prelude.{Result, Ok, Err}
use Rattle.std.proofs.Common.{◌≡◌, ℕ, ◌<◌, ◌≤◌, min, List, take, ap, ◌∙◌, arith}
use Rattle.std.proofs.lemmas.Result.{err_from_is_err_and}
use Rattle.columns.specs.Layout.{word_count}
use Rattle.columns.specs.Columns.{words_within}
use Rattle.input.specs.declared.Lists.{Lists}
use Rattle.input.specs.declared.Wrong.{Wrong}
use Rattle.input.specs.declared.Fault.TheVariants.{Outside}
use Rattle.input.specs.Input.{wrong_at, count_x, count_y, after_counts, after_x, after_words, with_list, with_words}
use Rattle.input.proofs.Tests.{outside, all_inside, list_wrong, list_known, too_few, too_many, just_so_many}
use Rattle.input.proofs.laid_out.Goals as goal

-- the answer for the numbers
abbrev Whole : List ℕ → ℕ → Result Lists Wrong
Whole ns n = with_words ns n (words_within (take (min n word_count) ns))

module _ (ns : List ℕ) (n there w : ℕ) (t : there ≡ min n word_count) (e : w ≡ words_within (take there ns)) where
  -- the words that are there and within
  counted : w ≡ words_within (take (min n word_count) ns)
  counted = e ∙ ap (λ (k : ℕ). words_within (take k ns)) t

  first_outside : w < there → wrong_at w Outside ≡ Whole ns n
  first_outside h = outside ns n w (omega arith) ∙ ap (with_words ns n) counted

  module _ (in_all : there ≤ w) where
    -- the words are all within: what is left is asked of the number after them
    inside : after_words ns n ≡ Whole ns n
    inside = all_inside ns n w (omega arith) ∙ ap (with_words ns n) counted

    x_wrong : (v : Wrong) → Err v ≡ with_list ns n count_x Ok → Err v ≡ Whole ns n
    x_wrong v h = let step : Err v ≡ after_words ns n = unfold after_words in list_wrong ns n count_x (after_x ns n) v h in step ∙ inside

    module _ (xs : ℕ) (x : Ok xs ≡ with_list ns n count_x Ok) where
      -- the earlier x are counted
      x_read : after_x ns n xs ≡ Whole ns n
      x_read = let step : after_x ns n xs ≡ after_words ns n = unfold after_words in list_known ns n count_x (after_x ns n) xs x in step ∙ inside

      y_wrong : (v : Wrong) → Err v ≡ with_list ns n (count_y xs) Ok → Err v ≡ Whole ns n
      y_wrong v h = let step : Err v ≡ after_x ns n xs = unfold after_x in list_wrong ns n (count_y xs) (after_counts n xs) v h in step ∙ x_read

      -- the earlier y are counted
      y_read : (ys : ℕ) → Ok ys ≡ with_list ns n (count_y xs) Ok → after_counts n xs ys ≡ Whole ns n
      y_read ys y = let step : after_counts n xs ys ≡ after_x ns n xs = unfold after_x in list_known ns n (count_y xs) (after_counts n xs) ys y in step ∙ x_read

pub returns : goal.returns
returns c =
    just_so_many _ _ _ c.if-n-all.false c.if-all-n.false
    ∙ y_read _ _ _ _ c.min-there.ensures c.words_within-w.ensures c.if-w-there.false _ c.in_ok-xs.ensures.value _ c.in_ok-ys.ensures.value

pub returns-then-w-there : goal.returns-then-w-there
returns-then-w-there c = ap Err c.wrong_at.ensures ∙ first_outside _ _ _ _ c.min-there.ensures c.words_within-w.ensures c.if-w-there.true

pub returns-in_err-xs : goal.returns-in_err-xs
returns-in_err-xs c =
    let p = err_from_is_err_and c.from_residual.result c.from_residual.ensures.1 in
    rw (p.1, p.2) (x_wrong _ _ _ _ c.min-there.ensures c.words_within-w.ensures c.if-w-there.false _ c.in_err-xs.ensures.value)

pub returns-in_err-ys : goal.returns-in_err-ys
returns-in_err-ys c =
    let p = err_from_is_err_and c.from_residual-in_err-ys.result c.from_residual-in_err-ys.ensures.1 in
    rw (p.1, p.2) (y_wrong _ _ _ _ c.min-there.ensures c.words_within-w.ensures c.if-w-there.false _ c.in_ok-xs.ensures.value _ c.in_err-ys.ensures.value)

pub returns-then-n-all : goal.returns-then-n-all
returns-then-n-all c =
    ap Err c.wrong_at-then-n-all.ensures ∙ too_few _ _ _ c.if-n-all.true
    ∙ y_read _ _ _ _ c.min-there.ensures c.words_within-w.ensures c.if-w-there.false _ c.in_ok-xs.ensures.value _ c.in_ok-ys.ensures.value

pub returns-then-all-n : goal.returns-then-all-n
returns-then-all-n c =
    ap Err c.wrong_at-then-all-n.ensures ∙ too_many _ _ _ c.if-all-n.true c.if-n-all.false
    ∙ y_read _ _ _ _ c.min-there.ensures c.words_within-w.ensures c.if-w-there.false _ c.in_ok-xs.ensures.value _ c.in_ok-ys.ensures.value
