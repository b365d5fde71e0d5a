use Rattle.std.proofs.Common.{Bool, false, ℕ, List, get_or, ◌∙◌, arith}
use Rattle.game.specs.Players.{number_at, numbers_where}
use Rattle.game.proofs.Listing.{listed_none, listed_count, listed_turn, listed_done}
use Rattle.game.proofs.numbers_where.Goals as goal

abbrev flag : List Bool → ℕ → Bool
flag l i = get_or l i false

pub loop-i-init : goal.loop-i-init
loop-i-init c = listed_none (flag c.args.flags) number_at

pub append_if-list-requires : goal.append_if-list-requires
append_if-list-requires c = omega (arith, listed_count (flag c.args.flags) number_at c.loop-i.i c.loop-i.list c.loop-i.invariant)

pub loop-i-preserved : goal.loop-i-preserved
loop-i-preserved c =
    c.append_if-list.ensures ∙ listed_turn (flag c.args.flags) number_at c.loop-i.i c.loop-i.list c.loop-i-test.true c.loop-i.invariant

pub returns : goal.returns
unfolding numbers_where
returns c = listed_done (flag c.args.flags) number_at c.loop-i.i 20 c.loop-i.list c.loop-i.auto.i-end c.loop-i-test.false c.loop-i.invariant
