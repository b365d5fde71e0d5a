-- The pieces, each where the one before it ended, are the line.
use Rattle.std.proofs.Common.{ℕ, refl, ap, length, replicate, arith}
use Rattle.std.proofs.lemmas.List.{length-replicate}
use Rattle.sentences.proofs.Pieces.{digits_told, line_short, line_stored}
use Rattle.sentences.proofs.coach_line.Goals as goal

pub returns-then-too_few : goal.returns-then-too_few
returns-then-too_few c =
    let short = line_short c.args.side c.args.number c.args.verdict c.args.condition _ _ _ _ c.args.text.now c.side_word-s.ensures.value refl c.verdict_words-v.ensures.value c.condition_words-c.ensures.value (omega (arith, c.if-too_few.true, c.digits_of-count.ensures.value)) in
    record { value = short.0; text_after = short.1 }

pub returns : goal.returns
returns c =
    let digits = digits_told c.args.number c.digits_of-count.result c.digits_of-count.ensures.value in
    let whole = line_stored c.args.side c.args.number c.args.verdict c.args.condition _ _ _ _ c.args.text.now c.side_word-s.ensures.value digits c.verdict_words-v.ensures.value c.condition_words-c.ensures.value
    (omega (arith, c.if-too_few.false, c.digits_of-count.ensures.value, ap length digits))
    (replicate 80 0) c.copy_from_slice.new.self
    (omega (arith, c.side_word-s.ensures.few, c.verdict_words-v.ensures.few, c.condition_words-c.ensures.few, c.digits_of-count.ensures.few, c.digits_of-count.ensures.value, ap length digits, length-replicate {A = ℕ} 80 0)) _ _ _ _ _ _ _ _ _ _ _ _ _ _
    c.put-after_side.ensures.out_after c.put-after_side.ensures.value c.put-after_side.auto.out
    c.put-number_place.ensures.out_after c.put-number_place.ensures.value c.put-number_place.auto.out
    c.put-after_number.ensures.out_after c.put-after_number.ensures.value c.put-after_number.auto.out
    c.put-verdict_place.ensures.out_after c.put-verdict_place.ensures.value c.put-verdict_place.auto.out
    c.put-after_verdict.ensures.out_after c.put-after_verdict.ensures.value c.put-after_verdict.auto.out
    c.put-condition_place.ensures.out_after c.put-condition_place.ensures.value c.put-condition_place.auto.out
    c.put-end.ensures.out_after c.put-end.ensures.value c.put-end.auto.out c.copy_from_slice.ensures.after in
    record { value = whole.0; text_after = whole.1 }
