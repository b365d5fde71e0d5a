-- The place, a colon, what is wrong and a line feed, one after the other, are the line.
use Rattle.std.proofs.Common.{[], ap, ◌∙◌}
use Rattle.text.specs.Pushed.{pushed}
use Rattle.text.proofs.Pushed.{first_piece, next_piece}
use Rattle.replies.specs.Replies.{fault_line}
use Rattle.replies.proofs.Pieces.{line_written}
use Rattle.replies.proofs.Places.{line_told}
use Rattle.replies.proofs.Lengths.{fault_line_few}
use Rattle.replies.proofs.fault_line.Goals as goal

pub returns : goal.returns
returns c =
    let place = first_piece 256 _ c.new-line.ensures c.push_place.ensures in
    let all = next_piece 256 _ _ _ (next_piece 256 _ _ _ (next_piece 256 _ _ _ place c.push.ensures) c.push_fault.ensures) c.push-2.ensures in
    let told = line_told c.args.numbers.now c.args.i _ _ c.args.fault c.number_at-nx.ensures c.number_at-number.ensures in
    let t = line_written 256 (fault_line c.args.numbers.now c.args.i c.args.fault) c.args.out.now _ _ (c.as_bytes.ensures ∙ all ∙ ap (pushed 256 []) told) (fault_line_few c.args.numbers.now c.args.i c.args.fault)
    c.told.ensures.value c.told.ensures.out_after in
    record { value = t.0; out_after = t.1 }
