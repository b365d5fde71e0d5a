-- The walk counts the candidates after the first.
use Rattle.std.proofs.Common.{rules, ◌≡◌, false, ℕ, sym, ap, ◌∙◌, le-leb, arith}
use Rattle.std.proofs.lemmas.Bool.{lt-leb}
use Rattle.refusal.specs.Refusal.{unless_refused}
use Rattle.tries.proofs.CandidatesList.{held}
use Rattle.candidates.proofs.CandidatesAnswer.{refused_5, refused_6, not_refused}
use Rattle.candidates.proofs.candidates_refusal.Goals as goal

pub returns-then-refused : goal.returns-then-refused
returns-then-refused c =
    let s = c.args.span in
    ap (λ (n : ℕ). unless_refused n tt) (sym (refused_5 s.start s.min s.max s.step c.args.len (sym c.unfit-refused.ensures ∙ c.if-refused.true)))

pub returns-then-too_long : goal.returns-then-too_long
returns-then-too_long c =
    let s = c.args.span in
    let f = held s c.well_formed.0.1.1 in
    let fit : c.unfit-refused.result ≡ false = search rules in
    ap (λ (n : ℕ). unless_refused n tt)
    (sym (refused_6 s.start s.min s.max s.step f c.walk-w.result.count c.args.len c.walk-w.ensures.1 (sym c.unfit-refused.ensures ∙ fit) (le-leb _ _ (omega (arith, c.if-too_long.true)))))

pub returns : goal.returns
returns c =
    let s = c.args.span in
    let f = held s c.well_formed.0.1.1 in
    ap (λ (n : ℕ). unless_refused n tt)
    (sym (not_refused s.start s.min s.max s.step f c.walk-w.result.count c.args.len c.walk-w.ensures.1 (sym c.unfit-refused.ensures ∙ c.if-refused.false) (lt-leb _ _ c.if-too_long.false)))
