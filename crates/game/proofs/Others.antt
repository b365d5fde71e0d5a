-- The variants that a `_` arm stands for, by their tags: the tag of the variant that is named is none of them. Assumes nothing.
use mathlib.Core.Path.{◌≡◌, refl}
use mathlib.Core.Bool.{false}
use mathlib.Core.List.{[], ◌∷◌}
use types.Run.{OneOf, miss}
use denote.Enum.Declared.{tag_of}
use Rattle.game.specs.Game.{is_shootout, is_set, is_playing, is_unpenalized}
use Rattle.game.specs.contracts.Phase as Phases
use Rattle.game.specs.declared.Phase.{Phase}
use Rattle.game.specs.declared.Phase.TheVariants.{FirstHalf, SecondHalf, FirstExtraHalf, SecondExtraHalf, PenaltyShootout}
use Rattle.game.specs.contracts.State as States
use Rattle.game.specs.declared.State.{State}
use Rattle.game.specs.declared.State.TheVariants.{Initial, Ready, Set, Playing, Finished, Timeout}
use Rattle.game.specs.contracts.Penalty as Penalties
use Rattle.game.specs.declared.Penalty.{Penalty}
use Rattle.game.specs.declared.Penalty.TheVariants.{NoPenalty, IllegalPositioning, MotionInSet, MotionInStop, LocalGameStuck, IncapableRobot, PickedUp, BallHolding, LeavingTheField, PlayingWithArmsHands, Pushing, Cautioned, SentOff, Substitute}

pub no_shootout : (p : Phase) → OneOf (0 ∷ 1 ∷ 2 ∷ 3 ∷ []) (tag_of Phases.the_type p) → false ≡ is_shootout p
no_shootout FirstHalf h = refl
no_shootout SecondHalf h = refl
no_shootout FirstExtraHalf h = refl
no_shootout SecondExtraHalf h = refl
no_shootout PenaltyShootout h = absurd (miss (0 ∷ 1 ∷ 2 ∷ 3 ∷ []) 4 tt h)

pub not_set : (s : State) → OneOf (0 ∷ 1 ∷ 3 ∷ 4 ∷ 5 ∷ []) (tag_of States.the_type s) → false ≡ is_set s
not_set Initial h = refl
not_set Ready h = refl
not_set Set h = absurd (miss (0 ∷ 1 ∷ 3 ∷ 4 ∷ 5 ∷ []) 2 tt h)
not_set Playing h = refl
not_set Finished h = refl
not_set Timeout h = refl

pub not_playing : (s : State) → OneOf (0 ∷ 1 ∷ 2 ∷ 4 ∷ 5 ∷ []) (tag_of States.the_type s) → false ≡ is_playing s
not_playing Initial h = refl
not_playing Ready h = refl
not_playing Set h = refl
not_playing Playing h = absurd (miss (0 ∷ 1 ∷ 2 ∷ 4 ∷ 5 ∷ []) 3 tt h)
not_playing Finished h = refl
not_playing Timeout h = refl

pub penalized : (p : Penalty) → OneOf (1 ∷ 2 ∷ 3 ∷ 4 ∷ 5 ∷ 6 ∷ 7 ∷ 8 ∷ 9 ∷ 10 ∷ 11 ∷ 12 ∷ 13 ∷ []) (tag_of Penalties.the_type p) → false ≡ is_unpenalized p
penalized NoPenalty h = absurd (miss (1 ∷ 2 ∷ 3 ∷ 4 ∷ 5 ∷ 6 ∷ 7 ∷ 8 ∷ 9 ∷ 10 ∷ 11 ∷ 12 ∷ 13 ∷ []) 0 tt h)
penalized IllegalPositioning h = refl
penalized MotionInSet h = refl
penalized MotionInStop h = refl
penalized LocalGameStuck h = refl
penalized IncapableRobot h = refl
penalized PickedUp h = refl
penalized BallHolding h = refl
penalized LeavingTheField h = refl
penalized PlayingWithArmsHands h = refl
penalized Pushing h = refl
penalized Cautioned h = refl
penalized SentOff h = refl
penalized Substitute h = refl
