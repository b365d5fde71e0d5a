-- The bytes so far keep their place, and the front of the piece follows them.
use Rattle.std.proofs.Common.{arith}
use Rattle.text.proofs.Pushed.{pushed_in}
use Rattle.text.proofs.Text.push.Goals as goal

pub returns : goal.returns
returns g c =
    rw (c.copy_from_slice.ensures.after, ← c.self.view_is) (pushed_in g.row.N c.self.inside.count _ _ c.self.inside.bytes c.args.piece.now (omega (arith, c.self.told)) c.self.invariant c.min-n.ensures)
