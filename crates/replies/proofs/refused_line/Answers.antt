-- The word, the number and a line feed, one after the other, are the line.
use Rattle.std.proofs.Common.{[], ◌∷◌, ap, ◌∙◌, append_assoc}
use Rattle.text.specs.Decimal.{decimal_of}
use Rattle.text.specs.Pushed.{pushed}
use Rattle.text.proofs.Pushed.{first_piece, next_piece}
use Rattle.replies.specs.Replies.{refused_word, refused_line}
use Rattle.replies.proofs.Pieces.{line_written}
use Rattle.replies.proofs.Lengths.{refused_line_few}
use Rattle.replies.proofs.refused_line.Goals as goal

pub returns : goal.returns
unfolding refused_line
returns c =
    let word = first_piece 256 _ c.new-reply.ensures c.push.ensures in
    let all = next_piece 256 _ _ _ (next_piece 256 _ _ _ word c.push_number.ensures) c.push-2.ensures in
    let t = line_written 256 (refused_line c.args.refusal) c.args.out.now _ _ (c.as_bytes.ensures ∙ all ∙ ap (pushed 256 []) (append_assoc refused_word (decimal_of c.args.refusal) (10 ∷ []))) (refused_line_few c.args.refusal) c.told.ensures.value c.told.ensures.out_after in
    record { value = t.0; out_after = t.1 }
