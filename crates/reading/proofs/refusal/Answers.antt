-- By the walk and by the first line.
use Rattle.std.proofs.Common.{Option, ℕ, Bool, true, false, not, ◌||◌, true≢false, ◌/◌, ◌%◌, length, sym, ap, ◌∙◌}
use lib.Dec.{eqb}
use Rattle.lines.specs.declared.Row.{Row}
use Rattle.reading.specs.Reading.{unless_refused}
use Rattle.reading.specs.Walk.{counted_by}
use Rattle.reading.proofs.Answers.{refusal_told}
use Rattle.reading.proofs.refusal.Goals as goal

pub returns-then-broken-text : goal.returns-then-broken-text
returns-then-broken-text c =
    let text = c.args.text.now in
    ap (λ (n : ℕ). unless_refused n tt) (refusal_told text _ false true true c.walk_lines-walk.ensures
    (ap (λ (b : Bool). b || not (eqb (length text % 45) 0)) (sym c.broken.ensures) ∙ c.if-broken-text.true)
    (λ t. absurd (true≢false (sym t)))
    (λ t u. absurd (true≢false (sym t))))

pub returns-then-not-counted_by : goal.returns-then-not-counted_by
returns-then-not-counted_by c =
    let text = c.args.text.now in
    ap (λ (n : ℕ). unless_refused n tt) (refusal_told text _ true false true c.walk_lines-walk.ensures
    (ap (λ (b : Bool). b || not (eqb (length text % 45) 0)) (sym c.broken.ensures) ∙ c.if-broken-text.false)
    (λ t. ap (λ (x : Option Row). counted_by x (length text / 45)) (sym c.line_at-first.ensures) ∙ sym c.counted_by.ensures ∙ c.if-not-counted_by.true)
    (λ t u. absurd (true≢false (sym u))))

pub returns-then-whole : goal.returns-then-whole
returns-then-whole c =
    let text = c.args.text.now in
    ap (λ (n : ℕ). unless_refused n tt) (refusal_told text _ true true true c.walk_lines-walk.ensures
    (ap (λ (b : Bool). b || not (eqb (length text % 45) 0)) (sym c.broken.ensures) ∙ c.if-broken-text.false)
    (λ t. ap (λ (x : Option Row). counted_by x (length text / 45)) (sym c.line_at-first.ensures) ∙ sym c.counted_by.ensures ∙ c.if-not-counted_by.false)
    (λ t u. sym c.whole.ensures ∙ c.if-whole.true))

pub returns : goal.returns
returns c =
    let text = c.args.text.now in
    ap (λ (n : ℕ). unless_refused n tt) (refusal_told text _ true true false c.walk_lines-walk.ensures
    (ap (λ (b : Bool). b || not (eqb (length text % 45) 0)) (sym c.broken.ensures) ∙ c.if-broken-text.false)
    (λ t. ap (λ (x : Option Row). counted_by x (length text / 45)) (sym c.line_at-first.ensures) ∙ sym c.counted_by.ensures ∙ c.if-not-counted_by.false)
    (λ t u. sym c.whole.ensures ∙ c.if-whole.false))
