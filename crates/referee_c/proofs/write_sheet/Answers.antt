use Rattle.std.proofs.Common.{rules, Result, ℕ, ◌<◌, ◌≤◌, length, sym, subst, ◌∙◌, arith}
use mir.Syntax.{w64}
use mir.ValLaws.{to_z-of_z}
use Rattle.sheet.specs.Sheet.{bytes_in}
use Rattle.refusal.specs.declared.Refusal.{Refusal}
use Rattle.call.proofs.Answers.{sheet_room}
use Rattle.referee_c.proofs.EntryLaws.{a_situation, no_situation}
use Rattle.referee_c.proofs.write_sheet.Goals as goal

pub answer_number-requires : goal.answer_number-requires
answer_number-requires c =
    let call = c.write_sheet-answer in
    let told : bytes_in call.result ≤ length c.args.sheet.now = subst (λ (a : Result ℕ Refusal). bytes_in a ≤ length c.args.sheet.now) (sym call.ensures.value) (sheet_room _ _ _ _ _) in
    let room : length c.args.sheet.now < 9223372036854775808 = search rules in
    omega arith

pub returns-then-situation : goal.returns-then-situation
returns-then-situation c =
    let a = c.args in
    let call = c.write_sheet-answer in
    let told = a_situation a.to a.words.now a.earlier.xs.now a.earlier.ys.now a.sheet.now _ call.result _ (sym c.is_situation-situation.ensures ∙ c.if-situation.true) c.situation_of-s.ensures call.ensures.value call.ensures.sheet_after in
    record { value = to_z-of_z w64 c.answer_number.result (search rules) ∙ c.answer_number.ensures ∙ told.0; sheet_after = told.1 }

pub returns : goal.returns
returns c =
    let a = c.args in
    let told = no_situation a.to a.words.now a.earlier.xs.now a.earlier.ys.now a.sheet.now (sym c.is_situation-situation.ensures ∙ c.if-situation.false) in
    record { value = to_z-of_z w64 c.minus-2.result (search rules) ∙ c.minus-2.ensures ∙ told.0; sheet_after = told.1 }
