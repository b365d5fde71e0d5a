-- The ball's place in a set play that is known, and the set plays that a `_` arm stands for, by their tags: none of them has a place. Assumes nothing.
use mathlib.Core.Path.{◌≡◌, refl, sym, ap, ◌∙◌}
use mathlib.Core.List.{[], ◌∷◌}
use types.Run.{OneOf, miss}
use denote.Enum.Declared.{tag_of}
use Rattle.game.specs.contracts.SetPlay as SetPlays
use Rattle.game.specs.declared.Ball.{Ball}
use Rattle.game.specs.declared.FieldDimensions.{FieldDimensions}
use Rattle.game.specs.declared.Placement.{Placement}
use Rattle.game.specs.declared.Placement.TheVariants.{NoPlace}
use Rattle.game.specs.declared.SetPlay.{SetPlay}
use Rattle.game.specs.declared.SetPlay.TheVariants.{NoSetPlay, KickOff, DirectFreeKick, IndirectFreeKick, PenaltyKick, ThrowIn, GoalKick, CornerKick}
use Rattle.game.specs.declared.SideMapping.{SideMapping}
use Rattle.places.specs.Places.{restart_place, set_play_place}
use Rattle.std.specs.Prelude.{Option}
use Rattle.game.specs.declared.Side.{Side}

pub by_play : (play known : SetPlay) (kicking : Option Side) (sides : SideMapping) (f : FieldDimensions) (b : Ball) {p : Placement} → play ≡ known → p ≡ restart_place known kicking sides f b → p ≡ restart_place play kicking sides f b
by_play play known kicking sides f b e q = q ∙ sym (ap (λ (z : SetPlay). restart_place z kicking sides f b) e)

pub none_there : (play : SetPlay) (kicking : Option Side) (sides : SideMapping) (f : FieldDimensions) (b : Ball) → OneOf (0 ∷ 1 ∷ 4 ∷ []) (tag_of SetPlays.the_type play) → NoPlace ≡ restart_place play kicking sides f b
none_there NoSetPlay kicking sides f b h = refl
none_there KickOff kicking sides f b h = refl
none_there DirectFreeKick kicking sides f b h = absurd (miss (0 ∷ 1 ∷ 4 ∷ []) 2 tt h)
none_there IndirectFreeKick kicking sides f b h = absurd (miss (0 ∷ 1 ∷ 4 ∷ []) 3 tt h)
none_there PenaltyKick kicking sides f b h = refl
none_there ThrowIn kicking sides f b h = absurd (miss (0 ∷ 1 ∷ 4 ∷ []) 5 tt h)
none_there GoalKick kicking sides f b h = absurd (miss (0 ∷ 1 ∷ 4 ∷ []) 6 tt h)
none_there CornerKick kicking sides f b h = absurd (miss (0 ∷ 1 ∷ 4 ∷ []) 7 tt h)

pub none_in_set : (play : SetPlay) (f : FieldDimensions) (kicking : Option Side) (sides : SideMapping) → OneOf (0 ∷ 2 ∷ 3 ∷ 5 ∷ 6 ∷ 7 ∷ []) (tag_of SetPlays.the_type play) → NoPlace ≡ set_play_place play f kicking sides
none_in_set NoSetPlay f kicking sides h = refl
none_in_set KickOff f kicking sides h = absurd (miss (0 ∷ 2 ∷ 3 ∷ 5 ∷ 6 ∷ 7 ∷ []) 1 tt h)
none_in_set DirectFreeKick f kicking sides h = refl
none_in_set IndirectFreeKick f kicking sides h = refl
none_in_set PenaltyKick f kicking sides h = absurd (miss (0 ∷ 2 ∷ 3 ∷ 5 ∷ 6 ∷ 7 ∷ []) 4 tt h)
none_in_set ThrowIn f kicking sides h = refl
none_in_set GoalKick f kicking sides h = refl
none_in_set CornerKick f kicking sides h = refl
