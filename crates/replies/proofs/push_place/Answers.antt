-- The pieces of each kind of place, one after the other.
use Rattle.std.proofs.Common.{ap, ◌∙◌}
use Rattle.text.specs.Pushed.{pushed}
use Rattle.text.proofs.Pushed.{next_piece}
use Rattle.replies.proofs.Places.{in_words, at_count_x, in_x, at_count_y, in_y}
use Rattle.replies.proofs.push_place.Goals as goal

pub returns-then-i-lt-WORDS : goal.returns-then-i-lt-WORDS
returns-then-i-lt-WORDS c =
    next_piece 256 _ _ _ (next_piece 256 _ _ _ (next_piece 256 _ _ _ (next_piece 256 _ _ _ c.push.ensures c.push_number.ensures) c.push-then-i-lt-WORDS.ensures) c.push_label.ensures) c.push-then-i-lt-WORDS-2.ensures
    ∙ ap (pushed 256 c.args.line.now) (in_words c.args.nx c.args.i c.if-i-lt-WORDS.true)

pub returns-then-i-eq-WORDS : goal.returns-then-i-eq-WORDS
returns-then-i-eq-WORDS c = c.push-then-i-eq-WORDS.ensures ∙ ap (pushed 256 c.args.line.now) (at_count_x c.args.nx c.args.i c.if-i-lt-WORDS.false c.if-i-eq-WORDS.true)

pub returns-then-i-last : goal.returns-then-i-last
returns-then-i-last c =
    next_piece 256 _ _ _ c.push-then-i-last.ensures c.push_number-then-i-last.ensures ∙ ap (pushed 256 c.args.line.now) (in_x c.args.nx c.args.i c.if-i-lt-WORDS.false c.if-i-eq-WORDS.false c.if-i-last.true)

pub returns-then-i-last-2 : goal.returns-then-i-last-2
returns-then-i-last-2 c = c.push-then-i-last-2.ensures ∙ ap (pushed 256 c.args.line.now) (at_count_y c.args.nx c.args.i c.if-i-lt-WORDS.false c.if-i-eq-WORDS.false c.if-i-last.false c.if-i-last-2.true)

pub returns-else-i-last-2 : goal.returns-else-i-last-2
returns-else-i-last-2 c =
    next_piece 256 _ _ _ c.push-else-i-last-2.ensures c.push_number-else-i-last-2.ensures
    ∙ ap (pushed 256 c.args.line.now) (in_y c.args.nx c.args.i c.if-i-lt-WORDS.false c.if-i-eq-WORDS.false c.if-i-last.false c.if-i-last-2.false)
