-- The claims of specs/Excess.antt, by evaluation of the definitions.
use mathlib.Core.Path.{refl}
use Rattle.cases.specs.Excess.{ExcessCases}
use Rattle.cases.proofs.Opened.{answers}

pub excess_cases : ExcessCases
unfolding answers
excess_cases = record { on_the_line = refl; penalised = refl; on_field = refl; on_field_penalised = refl; zeros = refl }
