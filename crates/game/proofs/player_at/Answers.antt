-- The array is 20 long, so that a place from 20 on is past its end.
use Rattle.std.proofs.Common.{rules, ◌≡◌, sym, arith, length}
use Rattle.std.proofs.Math.ListN.{get_or-eq_default}
use lib.Ieee.{div, of_bits}
use Rattle.game.specs.Players.{nobody}
use Rattle.game.proofs.player_at.Goals as goal

pub returns : goal.returns
unfolding div of_bits
returns c =
    let long : length c.args.team.players ≡ 20 = search rules in
    sym (get_or-eq_default c.args.team.players nobody (omega arith))
