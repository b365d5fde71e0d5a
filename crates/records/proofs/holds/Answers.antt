use Rattle.std.proofs.Common.{ℕ, ◌∙◌, get_or, nat_eq, rules, tests}
use Rattle.std.proofs.lemmas.Iterator.{YieldsList-from_slice}
use Rattle.std.proofs.lemmas.Iterator.Consumers.{YieldsList-from_enumerate}
use Rattle.std.proofs.lemmas.Iterator.Search.{all_from_yields_List}
use Rattle.records.specs.Records.{holds}
use Rattle.records.proofs.Placed.{placed}
use Rattle.records.proofs.holds.Goals as goal

pub returns : goal.returns
unfolding holds
returns c =
    all_from_yields_List (λ (q : ℕ × ℕ). nat_eq q.1 (get_or c.args.text.now q.0 c.args.fill)) _ _ _ c.all.ensures.ran
    (YieldsList-from_enumerate (YieldsList-from_slice c.args.bytes.now cc) (cc)) (λ x b q k. (search (rules, tests), search (rules, tests)))
    ∙ placed (λ i b. nat_eq b (get_or c.args.text.now i c.args.fill)) c.args.bytes.now
