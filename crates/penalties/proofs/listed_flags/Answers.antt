use Rattle.std.proofs.Common.{rules, ◌≡◌, Bool, ◌&&◌, sym, ap, ℕ, false, get_or, nat_eq, arith}
use borrow.Author.Tests.{le-ltb}
use Rattle.lists.proofs.Table.{turn, done, table_same}
use Rattle.game.specs.Players.{number_at}
use Rattle.game.specs.declared.PlayerList.{PlayerList}
use Rattle.penalties.specs.Penalties.{is_listed}
use Rattle.penalties.proofs.Some.{some_never}
use Rattle.penalties.proofs.listed_flags.Goals as goal

-- nobody is in an empty list
none_listed : (l : PlayerList) (n : ℕ) → l.count ≡ 0 → is_listed l n ≡ false
unfolding is_listed
none_listed l n e = some_never 20 _ (λ k. ap (λ (b : Bool). b && nat_eq (get_or l.numbers k 0) n) (le-ltb k l.count (omega arith)))

pub returns-then-list-eq0 : goal.returns-then-list-eq0
returns-then-list-eq0 c = table_same 20 (λ _. false) (λ k. is_listed c.args.list (number_at k)) (λ k _. sym (none_listed c.args.list (number_at k) c.if-list-eq0.true))

pub loop-i-preserved : goal.loop-i-preserved
loop-i-preserved c = turn _ _ _ _ _ (search rules) c.loop-i.invariant c.is_listed.ensures

pub returns : goal.returns
returns c = done _ _ _ _ 20 (search rules) c.loop-i.auto.i-end c.loop-i-test.false c.loop-i.invariant
