-- The refusal of a memory and its number. Assumes nothing.
use mathlib.Core.Path.{◌≡◌, ap, ◌∙◌}
use mathlib.Core.Bool.{true, ◌&&◌}
use mathlib.Core.List.{List}
use Prim.Native.Nat.{ℕ}
use Rattle.std.specs.Prelude.{⊤, Option, Result}
use Rattle.game.specs.declared.Ball.{Ball}
use Rattle.game.specs.declared.Restart.{Restart}
use Rattle.refusal.specs.Refusal.{unless_refused, number_in}
use Rattle.refusal.specs.declared.Refusal.{Refusal}
use Rattle.refusals.specs.Refusals.{ball_fits}
use Rattle.refusals.proofs.Numbers.{five_back}
use Rattle.remembered.specs.declared.Remembered.{Remembered}
use Rattle.memory_fits.specs.MemoryFits.{allowances_fit, kick_fits, memory_numbers_fit, memory_refusal}

-- the number is back from what is told
pub number_told : (own : Result ⊤ Refusal) (home away : List Remembered) (ball : Ball) (restart : Option Restart) (kicking toucher : Option ℕ)
    → own ≡ unless_refused (memory_refusal home away ball restart kicking toucher) tt → number_in own ≡ memory_refusal home away ball restart kicking toucher
unfolding memory_refusal
number_told own home away ball restart kicking toucher e =
    ap number_in e ∙ five_back tt true (allowances_fit home && allowances_fit away) (ball_fits ball && kick_fits restart) (memory_numbers_fit kicking restart toucher) true
