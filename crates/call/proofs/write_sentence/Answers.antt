-- By the number of the situation's refusal.
use Rattle.std.proofs.Common.{ap, ◌∙◌}
use Rattle.refusals.proofs.Numbers.{number_told}
use Rattle.coach.proofs.Answers.{with_refusal, refusals_told, sentence_answer_holds, sentence_after_holds}
use Rattle.call.proofs.write_sentence.Goals as goal

pub returns : goal.returns
returns c =
    let first = c.number_in-own.ensures ∙ number_told _ c.args.s c.args.earlier.xs.now c.args.earlier.ys.now c.refusal.ensures in
    record {
      value = refusals_told _ _ c.map_err.ensures.cases ∙ ap with_refusal c.write_sentence.ensures.value ∙ sentence_answer_holds c.args.s c.args.earlier.xs.now c.args.earlier.ys.now _ first _ _ _;
      text_after = c.write_sentence.ensures.text_after ∙ sentence_after_holds c.args.s c.args.earlier.xs.now c.args.earlier.ys.now _ first _ _ _;
    }
