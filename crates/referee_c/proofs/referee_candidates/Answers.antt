use Rattle.std.proofs.Common.{rules, ◌<◌, length, ap, ◌∙◌, arith}
use mir.Syntax.{w64}
use mir.ValLaws.{to_z-of_z}
use Rattle.refusal.specs.Refusal.{number_in}
use Rattle.candidates.proofs.CandidatesAnswer.{number_back}
use Rattle.referee_c.specs.Entries.{minus}
use Rattle.referee_c.proofs.Signed.{count_fits, count_read}
use Rattle.referee_c.proofs.EntryLaws.{none_filled, some_filled, front_fits}
use Rattle.referee_c.proofs.referee_candidates.Goals as goal

pub returns-then-n-eq0-clause-value : goal.returns-then-n-eq0-clause-value
returns-then-n-eq0-clause-value c =
    let a = c.args in
    to_z-of_z w64 c.minus-then-n-eq0.result (search rules)
    ∙ c.minus-then-n-eq0.ensures
    ∙ ap minus (c.number_in.ensures ∙ ap number_in c.candidates_refusal-refusal.ensures ∙ number_back tt a.start a.min a.max a.step (length a.list.now))
    ∙ none_filled a.start a.min a.max a.step (length a.list.now) c.fill_candidates-n.result c.fill_candidates-n.ensures.value c.if-n-eq0.true

-- as many as the list has places for, and so an i64
few : (c : goal.Else-n-eq0) → c.fill_candidates-n.result < 9223372036854775808
few c = omega (arith, c.fill_candidates-n.ensures.value, front_fits _ c.args.list.now _ c.fill_candidates-n.ensures.list_after c.fill_candidates-n.auto.list)

pub overflow_cast-result : goal.overflow_cast-result
overflow_cast-result c = count_fits _ (few c)

pub returns-clause-value : goal.returns-clause-value
returns-clause-value c =
    let a = c.args in
    count_read _ (few c) ∙ some_filled a.start a.min a.max a.step (length a.list.now) c.fill_candidates-n.result c.fill_candidates-n.ensures.value c.if-n-eq0.false
