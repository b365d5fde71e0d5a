use Rattle.std.proofs.Common.{rules, ◌≡◌, ℕ, ◌+◌, ◌≤◌, pos, ap, sym, ◌∙◌, arith}
use mir.Syntax.{w64}
use mir.ValLaws.{to_z-of_z}
use Rattle.columns.specs.Layout.{word_count}
use Rattle.columns.specs.Columns.{words_within}
use Rattle.columns.proofs.Front.{most_within}
use Rattle.referee_c.proofs.Signed.{count_fits, count_read}
use Rattle.referee_c.proofs.EntryLaws.{other_length, none_outside, first_outside}
use Rattle.referee_c.proofs.referee_check.Goals as goal

pub returns-then-n-eq-WORDS : goal.returns-then-n-eq-WORDS
returns-then-n-eq-WORDS c = none_outside c.args.words.now c.if-whole.true (sym c.words_within-n.ensures ∙ c.if-n-eq-WORDS.true)

-- as many words as a situation has, at most
few : (c : goal.Else-n-eq-WORDS) → c.words_within-n.result ≤ word_count
few c = omega (arith, c.words_within-n.ensures, most_within c.args.words.now)

pub overflow_add-result : goal.overflow_add-result
overflow_add-result c = omega (arith, few c)

pub overflow_cast-result : goal.overflow_cast-result
overflow_cast-result c = count_fits _ (omega (arith, few c))

pub returns-then-whole : goal.returns-then-whole
returns-then-whole c =
    let ws = c.args.words.now in
    count_read _ (omega (arith, few c))
    ∙ ap (λ (n : ℕ). pos (n + 1)) c.words_within-n.ensures
    ∙ first_outside ws c.if-whole.true (λ (e : words_within ws ≡ word_count). c.if-n-eq-WORDS.false (c.words_within-n.ensures ∙ e))

pub returns : goal.returns
returns c = to_z-of_z w64 c.minus.result (search rules) ∙ c.minus.ensures ∙ other_length c.args.words.now c.if-whole.false
