-- The claims of specs/Kicker.antt, by evaluation of the definitions.
use mathlib.Core.Path.{refl}
use Rattle.cases.specs.Kicker.{KickerCases}
use Rattle.cases.proofs.Opened.{answers}

pub kicker_cases : KickerCases
unfolding answers
kicker_cases = record { as_near = refl; nearer = refl; at_mark = refl; on_mark = refl; out_of_circle = refl; throw_in = refl; penalty = refl }
