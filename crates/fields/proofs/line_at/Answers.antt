-- By the four numbers and the last byte.
use mathlib.Core.Path.{refl}
use Rattle.std.proofs.Common.{arith, ◌∙◌}
use borrow.Author.Tests.{eq-eqb, ne_eqb}
use Rattle.fields.proofs.Told.{line_told, line_past}
use Rattle.fields.proofs.line_at.Goals as goal

pub returns-then-i-text : goal.returns-then-i-text
returns-then-i-text c = line_past c.args.text.now c.args.i c.if-i-text.true

pub returns-in_err-kind : goal.returns-in_err-kind
returns-in_err-kind c = c.from_residual.ensures ∙ line_told c.args.text.now c.args.i _ _ _ _ _ (omega (arith, c.if-i-text.false)) c.in_err-kind.ensures refl refl refl refl

pub returns-in_err-side : goal.returns-in_err-side
returns-in_err-side c =
    c.from_residual-in_err-side.ensures
    ∙ line_told c.args.text.now c.args.i _ _ _ _ _ (omega (arith, c.if-i-text.false)) c.in_ok-kind.ensures c.in_err-side.ensures refl refl refl

pub returns-in_err-number : goal.returns-in_err-number
returns-in_err-number c =
    c.from_residual-in_err-number.ensures
    ∙ line_told c.args.text.now c.args.i _ _ _ _ _ (omega (arith, c.if-i-text.false)) c.in_ok-kind.ensures c.in_ok-side.ensures c.in_err-number.ensures refl refl

pub returns-in_err-value : goal.returns-in_err-value
returns-in_err-value c =
    c.from_residual-in_err-value.ensures
    ∙ line_told c.args.text.now c.args.i _ _ _ _ _ (omega (arith, c.if-i-text.false)) c.in_ok-kind.ensures c.in_ok-side.ensures c.in_ok-number.ensures c.in_err-value.ensures refl

pub returns-then-not-is_ended : goal.returns-then-not-is_ended
returns-then-not-is_ended c =
    line_told c.args.text.now c.args.i _ _ _ _ _ (omega (arith, c.if-i-text.false)) c.in_ok-kind.ensures c.in_ok-side.ensures c.in_ok-number.ensures c.in_ok-value.ensures
    (ne_eqb _ 10 c.if-not-is_ended.true)

pub returns : goal.returns
returns c =
    line_told c.args.text.now c.args.i _ _ _ _ _ (omega (arith, c.if-i-text.false)) c.in_ok-kind.ensures c.in_ok-side.ensures c.in_ok-number.ensures c.in_ok-value.ensures
    (eq-eqb _ 10 c.if-not-is_ended.false)
