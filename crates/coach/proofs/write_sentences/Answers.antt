-- The lines of both sides are written one after the other, and then copied where they have room.
use Rattle.std.proofs.Common.{◌≤◌, ℕ, length, replicate, arith, Ok, Err, ap, sym, ◌∙◌}
use Rattle.std.proofs.lemmas.List.{length-replicate, length-take-le}
use Rattle.game.specs.declared.Side.TheVariants.{Home, Away}
use Rattle.refusal.specs.declared.Refusal.TheVariants.{TextRoom}
use Rattle.coach.specs.Coach.{sentences_of}
use Rattle.coach.proofs.Answers.{text_refused, text_told}
use Rattle.coach.proofs.Lines.{side_few, all_written, all_short_holds, all_stored}
use Rattle.coach.proofs.write_sentences.Goals as goal

pub returns-then-text-end : goal.returns-then-text-end
returns-then-text-end c =
    let first = c.side_sentences-middle in
    let second = c.side_sentences-end in
    let all = all_written c.args.s _ _ c.side_conditions-home.ensures c.side_conditions-away.ensures (replicate 3000 0) _ _ first.result second.result (length-replicate {A = ℕ} 3000 0) first.ensures.lines_after first.ensures.value first.auto.lines
    second.ensures.lines_after second.ensures.value second.auto.lines in
    let text = all_short_holds c.args.s _ second.result all c.args.text.now c.if-text-end.true in
    let r = text_told c.args.own (sentences_of c.args.s) c.args.text.now (Err TextRoom) c.args.text.now c.if-refused.false text.0 text.1 in
    record { value = ap Err c.number_of.ensures ∙ r.0; text_after = r.1 }

pub returns-then-refused : goal.returns-then-refused
returns-then-refused c =
    let r = text_refused c.args.own (sentences_of c.args.s) c.args.text.now c.if-refused.true in
    record { value = r.0; text_after = r.1 }

pub side_sentences-end-requires : goal.side_sentences-end-requires
side_sentences-end-requires c =
    omega (arith, c.side_sentences-middle.ensures.value, side_few Home c.side_conditions-home.result, c.side_sentences-middle.auto.lines, length-replicate {A = ℕ} 3000 0)

pub slice_bounds-lines-end : goal.slice_bounds-lines-end
slice_bounds-lines-end c =
    omega (arith, c.side_sentences-middle.ensures.value, c.side_sentences-end.ensures.value, side_few Home c.side_conditions-home.result, side_few Away c.side_conditions-away.result, c.side_sentences-middle.auto.lines, c.side_sentences-end.auto.lines, length-replicate {A = ℕ} 3000 0)

pub slice_bounds-copy_from_slice-end-3 : goal.slice_bounds-copy_from_slice-end-3
slice_bounds-copy_from_slice-end-3 c =
    let inside : c.side_sentences-end.result ≤ length c.side_sentences-end.new.lines = omega (arith, c.side_sentences-middle.ensures.value, c.side_sentences-end.ensures.value, side_few Home c.side_conditions-home.result, side_few Away c.side_conditions-away.result, c.side_sentences-middle.auto.lines, c.side_sentences-end.auto.lines, length-replicate {A = ℕ} 3000 0) in
    sym (length-take-le _ _ inside)

pub copy_from_slice-requires : goal.copy_from_slice-requires
copy_from_slice-requires c =
    let inside : c.side_sentences-end.result ≤ length c.side_sentences-end.new.lines = omega (arith, c.side_sentences-middle.ensures.value, c.side_sentences-end.ensures.value, side_few Home c.side_conditions-home.result, side_few Away c.side_conditions-away.result, c.side_sentences-middle.auto.lines, c.side_sentences-end.auto.lines, length-replicate {A = ℕ} 3000 0) in
    length-take-le _ _ c.if-text-end.false ∙ sym (length-take-le _ _ inside)

pub returns : goal.returns
returns c =
    let first = c.side_sentences-middle in
    let second = c.side_sentences-end in
    let all = all_written c.args.s _ _ c.side_conditions-home.ensures c.side_conditions-away.ensures (replicate 3000 0) _ _ first.result second.result (length-replicate {A = ℕ} 3000 0) first.ensures.lines_after first.ensures.value first.auto.lines
    second.ensures.lines_after second.ensures.value second.auto.lines in
    let text = all_stored c.args.s _ second.result all c.args.text.now c.copy_from_slice.new.self c.if-text-end.false c.copy_from_slice.ensures.after in
    let r = text_told c.args.own (sentences_of c.args.s) c.args.text.now (Ok second.result) _ c.if-refused.false text.0 text.1 in
    record { value = r.0; text_after = r.1 }
