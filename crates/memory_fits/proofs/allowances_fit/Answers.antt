use Rattle.std.proofs.Common.{Bool, ◌&&◌, ap}
use Rattle.lists.proofs.Every.{every_none, every_turn, every_done}
use Rattle.memory_fits.specs.MemoryFits.{allowances_fit}
use Rattle.memory_fits.proofs.allowances_fit.Goals as goal

pub loop-i-init : goal.loop-i-init
loop-i-init c = every_none _

pub loop-i-preserved : goal.loop-i-preserved
loop-i-preserved c = every_turn _ _ _ _ c.loop-i.invariant (ap (λ (b : Bool). c.loop-i.ok && b) c.allowance_fits-ok.ensures)

pub returns : goal.returns
unfolding allowances_fit
returns c = every_done _ _ _ _ c.loop-i.auto.i-end c.loop-i-test.false c.loop-i.invariant
