-- Answered so that a wrong test is refused here, and not by a limit of the search.
use Rattle.std.proofs.Common.{Bool, ap, ◌&&◌, length, nat_eq}
use Rattle.records.specs.Records.{is_written}
use Rattle.records.proofs.is_written.Goals as goal

pub returns : goal.returns
unfolding is_written
returns c = ap (λ (b : Bool). nat_eq c.args.n (length c.args.text.now) && b) c.holds-kept.ensures
