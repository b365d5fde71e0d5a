-- What is not refused is written as the line of its condition; a number that is not refused is from 1 to 20.
use Rattle.std.proofs.Common.{sym, ap, ◌∙◌, List, ℕ, ◌-◌, length, get_or}
use Rattle.conditions.specs.declared.Condition.{Condition}
use Rattle.conditions.specs.declared.Condition.TheVariants.{NoCondition}
use Rattle.coach.specs.Coach.{sentence_of, text_answer, text_after}
use Rattle.coach.proofs.Answers.{number_fits_holds, numbers_told, text_refused, text_told}
use Rattle.coach.proofs.Lines.{numbered_at}
use Rattle.coach.proofs.write_sentence.Goals as goal

pub returns-then-refused-ne0 : goal.returns-then-refused-ne0
returns-then-refused-ne0 c =
    let e = c.with_number-refused.ensures in
    let r = text_refused c.with_number-refused.result (sentence_of c.args.s c.args.side c.args.number) c.args.text.now c.if-refused-ne0.true in
    record {
      value = r.0 ∙ ap (λ (k : ℕ). text_answer k (sentence_of c.args.s c.args.side c.args.number) (length c.args.text.now)) e;
      text_after = r.1 ∙ ap (λ (k : ℕ). text_after k (sentence_of c.args.s c.args.side c.args.number) c.args.text.now) e;
    }

pub returns : goal.returns
unfolding sentence_of
returns c =
    let none = sym c.with_number-refused.ensures ∙ c.if-refused-ne0.false in
    let fit = number_fits_holds c.args.own _ none in
    let known = ap (λ (l : List Condition). get_or l (c.args.number - 1) NoCondition) c.side_conditions-conditions.ensures ∙ numbered_at c.args.s c.args.side c.args.number fit.0 fit.1 in
    let r = text_told _ (sentence_of c.args.s c.args.side c.args.number) c.args.text.now c.sentence.result _ none (rw known at c.sentence.ensures.value) (rw known at c.sentence.ensures.text_after) in
    record { value = numbers_told _ _ c.map_err.ensures.cases ∙ r.0; text_after = r.1 }
