use Rattle.std.proofs.Common.{rules, Result, ℕ, Bool, ◌&&◌, leb, ◌<◌, ◌≤◌, length, ap, sym, subst, ◌∙◌, arith}
use mir.Syntax.{w64}
use mir.ValLaws.{to_z-of_z}
use Rattle.sheet.specs.Sheet.{bytes_in}
use Rattle.refusal.specs.declared.Refusal.{Refusal}
use Rattle.coach.proofs.Answers.{sentence_room}
use Rattle.referee_c.proofs.EntryLaws.{a_player, no_player}
use Rattle.referee_c.proofs.referee_coach.Goals as goal

pub answer_number-requires : goal.answer_number-requires
answer_number-requires c =
    let call = c.write_sentence-answer in
    let told : bytes_in call.result ≤ length c.args.text.now = subst (λ (a : Result ℕ Refusal). bytes_in a ≤ length c.args.text.now) (sym call.ensures.value) (sentence_room _ _ _ _ _ _) in
    let room : length c.args.text.now < 9223372036854775808 = search rules in
    omega arith

pub returns-then-is_situation-side : goal.returns-then-is_situation-side
returns-then-is_situation-side c =
    let a = c.args in
    let call = c.write_sentence-answer in
    let told = a_player a.words.now a.xs.now a.ys.now a.side a.number a.text.now _ _ call.result _
    (ap (λ (b : Bool). b && leb a.side 1) (sym c.is_situation.ensures) ∙ c.if-is_situation-side.true) c.situation_of-s.ensures c.side_of-team.ensures call.ensures.value call.ensures.text_after in
    record { value = to_z-of_z w64 c.answer_number.result (search rules) ∙ c.answer_number.ensures ∙ told.0; text_after = told.1 }

pub returns : goal.returns
returns c =
    let a = c.args in
    let told = no_player a.words.now a.xs.now a.ys.now a.side a.number a.text.now
    (ap (λ (b : Bool). b && leb a.side 1) (sym c.is_situation.ensures) ∙ c.if-is_situation-side.false) in
    record { value = to_z-of_z w64 c.minus-2.result (search rules) ∙ c.minus-2.ensures ∙ told.0; text_after = told.1 }
