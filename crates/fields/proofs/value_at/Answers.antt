-- By how many blanks there are.
use Rattle.std.proofs.Common.{ℕ, ◌≡◌, ◌+◌, ◌<◌, false, ◌&&◌, true≢false, nat_eq, nat_lt, get_or, drop, ap, sym, ◌∙◌, arith}
use borrow.Author.Tests.{ltb-true, eqb-true, lt-ltb, eq-eqb}
use Rattle.lists.proofs.Bools.{both, both_true}
use Rattle.fields.specs.Fields.{columns_from, digits_from}
use Rattle.fields.proofs.Walks.{length_columns_from, column_byte, digit_columns, value_blank, value_zero, value_digits}
use Rattle.fields.proofs.value_at.Goals as goal

-- no zero leads
both_false : (n b : ℕ) → (nat_lt n 10 && nat_eq b 48) ≡ false → n < 10 → b ≡ 48 → ⊥
both_false n b e low zero = true≢false (sym (both (nat_lt n 10) (nat_eq b 48) (lt-ltb n 10 low) (eq-eqb b 48 zero)) ∙ e)

pub returns-then-n-gt10 : goal.returns-then-n-gt10
returns-then-n-gt10 c =
    let long = length_columns_from c.args.text.now c.args.at c.requires in
    value_blank (columns_from c.args.at c.args.text.now) (omega (arith, long, c.if-n-gt10.true, c.blanks-n.ensures))

pub returns-then-leads : goal.returns-then-leads
returns-then-leads c =
    let cs = columns_from c.args.at c.args.text.now in
    let n = c.blanks-n.result in
    let long = length_columns_from c.args.text.now c.args.at c.requires in
    let leads = both_true _ (nat_eq (get_or c.args.text.now (c.args.at + n) 0) 48) c.if-leads.true in
    let low = ltb-true n _ leads.0 in
    let first : get_or cs n 0 ≡ 48 = column_byte c.args.text.now c.args.at n (omega (arith, low)) ∙ eqb-true (get_or c.args.text.now (c.args.at + n) 0) 48 leads.1 in
    value_zero cs (omega (arith, long, low, c.blanks-n.ensures)) (ap (λ (k : ℕ). get_or cs k 0) (sym c.blanks-n.ensures) ∙ first)

pub returns : goal.returns
returns c =
    let cs = columns_from c.args.at c.args.text.now in
    let n = c.blanks-n.result in
    let told = c.blanks-n.ensures in
    let long = length_columns_from c.args.text.now c.args.at c.requires in
    c.digits.ensures
    ∙ ap (digits_from 0) (digit_columns c.args.text.now c.args.at n (omega (arith, c.requires)) ∙ ap (λ (k : ℕ). drop k cs) told)
    ∙ value_digits cs (omega (arith, long, told, c.if-n-gt10.false))
    (λ more zero.
    both_false n (get_or c.args.text.now (c.args.at + n) 0) c.if-leads.false (omega (arith, more, long, told))
    (sym (column_byte c.args.text.now c.args.at n (omega (arith, more, long, told))) ∙ ap (λ (k : ℕ). get_or cs k 0) told ∙ zero))
