-- The lower of the refusals of a frame and of a memory is the first of the requirements of both. Assumes nothing.
use Rattle.std.proofs.Common.{◌≡◌, refl, Bool, true, false, ◌&&◌, List}
use lib.Ieee.{Float}
use Rattle.lists.specs.Refusals.{first_refusal}
use Rattle.game.specs.declared.Situation.{Situation}
use Rattle.refusals.specs.Refusals.{field_fits, poses_fit, ball_fits, numbers_fit, distance_fits, five, requirements_of, refusal_of}
use Rattle.memory_fits.specs.MemoryFits.{allowances_fit, kick_fits, memory_numbers_fit, memory_refusal}
use Rattle.frames.specs.declared.Events.{Events}
use Rattle.frames.specs.declared.Memory.{Memory}
use Rattle.frames.specs.Frames.{toucher, lower, step_requirements, step_refusal}

-- of a frame the five requirements; of a memory a, c and m
lower_first : (field poses ball numbers distance a c m : Bool) → lower (first_refusal (five field poses ball numbers distance)) (first_refusal (five true a c m true)) ≡ first_refusal (five field (poses && a) (ball && c) (numbers && m) distance)
lower_first false p b n d false c m = refl
lower_first false p b n d true false m = refl
lower_first false p b n d true true false = refl
lower_first false p b n d true true true = refl
lower_first true false b n d false c m = refl
lower_first true false b n d true false m = refl
lower_first true false b n d true true false = refl
lower_first true false b n d true true true = refl
lower_first true true false n d false c m = refl
lower_first true true true false d false c m = refl
lower_first true true true true false false c m = refl
lower_first true true true true true false c m = refl
lower_first true true false n d true false m = refl
lower_first true true false n d true true false = refl
lower_first true true false n d true true true = refl
lower_first true true true false d true false m = refl
lower_first true true true true false true false m = refl
lower_first true true true true true true false m = refl
lower_first true true true false d true true false = refl
lower_first true true true false d true true true = refl
lower_first true true true true false true true false = refl
lower_first true true true true true true true false = refl
lower_first true true true true false true true true = refl
lower_first true true true true true true true true = refl

pub lower_refusal : (m : Memory) (s : Situation) (e : Events) (xs ys : List Float) →
    lower (refusal_of s xs ys) (memory_refusal m.home m.away m.ball m.restart m.kicking_player (toucher e.touch)) ≡ step_refusal m s e xs ys
unfolding requirements_of refusal_of memory_refusal step_requirements step_refusal
lower_refusal m s e xs ys =
    lower_first
    (field_fits s.field)
    (poses_fit s.home s.away xs ys)
    (ball_fits s.ball)
    (numbers_fit s.home.goalkeeper s.away.goalkeeper s.restart s.wish)
    (distance_fits s.penalty_placement_distance)
    (allowances_fit m.home && allowances_fit m.away)
    (ball_fits m.ball && kick_fits m.restart)
    (memory_numbers_fit m.kicking_player m.restart (toucher e.touch))
