-- The refusal of a situation and its number. Assumes nothing.
use mathlib.Core.Path.{◌≡◌, refl, ap, ◌∙◌}
use mathlib.Core.Bool.{Bool, true, false}
use mathlib.Core.List.{List}
use lib.Ieee.{Float}
use Rattle.std.specs.Prelude.{⊤, Result}
use Rattle.lists.specs.Refusals.{first_refusal}
use Rattle.game.specs.declared.Situation.{Situation}
use Rattle.refusal.specs.Refusal.{unless_refused, number_in}
use Rattle.refusal.specs.declared.Refusal.{Refusal}
use Rattle.refusals.specs.Refusals.{field_fits, poses_fit, ball_fits, numbers_fit, distance_fits, five, requirements_of, refusal_of}

pub five_back : {A : Type 0} (x : A) (a b c d e : Bool) → number_in (unless_refused (first_refusal (five a b c d e)) x) ≡ first_refusal (five a b c d e)
five_back x false b c d e = refl
five_back x true false c d e = refl
five_back x true true false d e = refl
five_back x true true true false e = refl
five_back x true true true true false = refl
five_back x true true true true true = refl

-- the number is back from the refusal
pub number_back : {A : Type 0} (x : A) (s : Situation) (xs ys : List Float) → number_in (unless_refused (refusal_of s xs ys) x) ≡ refusal_of s xs ys
unfolding refusal_of requirements_of
number_back x s xs ys = five_back x (field_fits s.field) (poses_fit s.home s.away xs ys) (ball_fits s.ball) (numbers_fit s.home.goalkeeper s.away.goalkeeper s.restart s.wish) (distance_fits s.penalty_placement_distance)

-- of what is told of a situation
pub number_told : (own : Result ⊤ Refusal) (s : Situation) (xs ys : List Float) → own ≡ unless_refused (refusal_of s xs ys) tt → number_in own ≡ refusal_of s xs ys
number_told own s xs ys e = ap number_in e ∙ number_back tt s xs ys
