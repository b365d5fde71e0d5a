-- The claims of specs/Places.antt, by evaluation of the definitions.
use mathlib.Core.Path.{refl}
use Rattle.cases.specs.Places.{PlaceCases}
use Rattle.cases.proofs.Opened.{answers}

pub place_cases : PlaceCases
unfolding answers
place_cases = record { penalty_mark = refl; striker = refl }
