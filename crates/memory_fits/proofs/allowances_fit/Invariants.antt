-- The loop's answer so far is that of the places passed.
use Rattle.std.proofs.Common.{◌≡◌}
use Rattle.lists.specs.Every.{every_to}
use Rattle.remembered.specs.Remembered.{remembered_at}
use Rattle.memory_fits.specs.MemoryFits.{allowance_fits}
use Rattle.memory_fits.proofs.allowances_fit.Given as goal

abbrev pub invariant-loop-i : goal.invariant-loop-i
invariant-loop-i l = l.ok ≡ every_to l.i (λ k. allowance_fits (remembered_at l.remembered k).return_allowance)
