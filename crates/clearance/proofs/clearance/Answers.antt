use lib.Ieee.{div, of_bits}
use Rattle.clearance.proofs.Nearest.{clearance_told}
use Rattle.clearance.proofs.clearance.Goals as goal

pub returns : goal.returns
unfolding div of_bits
returns c =
    let a = c.args in
    clearance_told a.home a.away a.side a.number a.earlier.xs.now a.earlier.ys.now a.x a.y c.left_out-skip_home.result c.left_out-skip_away.result c.near_team-a.result c.near_team-b.result c.near_places.result
    c.left_out-skip_home.ensures c.left_out-skip_away.ensures c.near_team-a.ensures c.near_team-b.ensures c.near_places.ensures
