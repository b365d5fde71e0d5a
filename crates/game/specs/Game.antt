-- Questions that are asked of the game's enums. Definitions only.
use Rattle.std.specs.Prelude.{Bool, true, false, ℕ, eqb, Option, None, Some}
use Rattle.game.specs.declared.Side.{Side}
use Rattle.game.specs.declared.Side.TheVariants.{Home, Away}
use Rattle.game.specs.declared.Phase.{Phase}
use Rattle.game.specs.declared.Phase.TheVariants.{FirstHalf, SecondHalf, FirstExtraHalf, SecondExtraHalf, PenaltyShootout}
use Rattle.game.specs.declared.State.{State}
use Rattle.game.specs.declared.State.TheVariants.{Initial, Ready, Set, Playing, Finished, Timeout}
use Rattle.game.specs.declared.Penalty.{Penalty}
use Rattle.game.specs.declared.Penalty.TheVariants.{NoPenalty, IllegalPositioning, MotionInSet, MotionInStop, LocalGameStuck, IncapableRobot, PickedUp, BallHolding, LeavingTheField, PlayingWithArmsHands, Pushing, Cautioned, SentOff, Substitute}
use Rattle.game.specs.declared.PlayerPose.{PlayerPose}

-- the other side
abbrev pub opponent : Side → Side
opponent Home = Away
opponent Away = Home

abbrev pub same_side : Side → Side → Bool
same_side Home Home = true
same_side Home Away = false
same_side Away Home = false
same_side Away Away = true

-- the side is there and is this one
abbrev pub is_side : Option Side → Side → Bool
is_side None s = false
is_side (Some t) s = same_side t s

-- the number is there and is this one
abbrev pub is_number : Option ℕ → ℕ → Bool
is_number None k = false
is_number (Some n) k = eqb n k

abbrev pub is_shootout : Phase → Bool
is_shootout FirstHalf = false
is_shootout SecondHalf = false
is_shootout FirstExtraHalf = false
is_shootout SecondExtraHalf = false
is_shootout PenaltyShootout = true

abbrev pub is_set : State → Bool
is_set Initial = false
is_set Ready = false
is_set Set = true
is_set Playing = false
is_set Finished = false
is_set Timeout = false

abbrev pub is_playing : State → Bool
is_playing Initial = false
is_playing Ready = false
is_playing Set = false
is_playing Playing = true
is_playing Finished = false
is_playing Timeout = false

abbrev pub is_unpenalized : Penalty → Bool
is_unpenalized NoPenalty = true
is_unpenalized IllegalPositioning = false
is_unpenalized MotionInSet = false
is_unpenalized MotionInStop = false
is_unpenalized LocalGameStuck = false
is_unpenalized IncapableRobot = false
is_unpenalized PickedUp = false
is_unpenalized BallHolding = false
is_unpenalized LeavingTheField = false
is_unpenalized PlayingWithArmsHands = false
is_unpenalized Pushing = false
is_unpenalized Cautioned = false
is_unpenalized SentOff = false
is_unpenalized Substitute = false

abbrev pub is_present : Option PlayerPose → Bool
is_present None = false
is_present (Some p) = true
