-- The lesser of the two lengths is their minimum.
use Rattle.std.proofs.Common.{ℕ, ap, ◌∙◌, arith}
use Rattle.columns.specs.Columns.{in_column, front_to, front_within}
use Rattle.columns.proofs.front_within.Goals as goal

pub returns-then-words-greatest : goal.returns-then-words-greatest
unfolding front_within
returns-then-words-greatest c =
    c.front_to.ensures ∙ ap (λ (n : ℕ). front_to n (in_column c.args.greatest.now c.args.words.now)) (omega arith)

pub returns : goal.returns
unfolding front_within
returns c =
    c.front_to-2.ensures ∙ ap (λ (n : ℕ). front_to n (in_column c.args.greatest.now c.args.words.now)) (omega arith)
