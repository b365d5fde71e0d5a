-- What a place is compared by after a change of the signs of x and y, as by a half turn: x changes its sign where a is true, and y where b is. Definitions only.
use Rattle.std.specs.Prelude.{◌≡◌, Bool, true, false, cond, ℕ, Float}
use Rattle.std.specs.Float.Ieee.{neg}
use Rattle.floats.specs.Arithmetic.{◌*₃₂◌, zero32, half, pi}
use Rattle.floats.specs.Values.{Alike}
use Rattle.game.specs.declared.Side.{Side}
use Rattle.geometry.specs.Turned.{signed}
use Rattle.game.specs.declared.Placement.{Placement}
use Rattle.game.specs.declared.Placement.TheVariants.{NoPlace, BallAt, PlayerAt}

-- PI/2
abbrev pub quarter_turn : Float
quarter_turn = pi *₃₂ half

-- a given heading and the same after the change: of 0 and PI each becomes the other where x changes its sign, and of PI/2 and -PI/2 where y does; where both do, each is turned half round
pub data GivenHeading (a b : Bool) : Float → Float → Type 0 where
  from_zero : GivenHeading a b zero32 (cond a pi zero32)
  from_pi : GivenHeading a b pi (cond a zero32 pi)
  from_quarter : GivenHeading a b quarter_turn (cond b (neg quarter_turn) quarter_turn)
  from_negative : GivenHeading a b (neg quarter_turn) (cond b quarter_turn (neg quarter_turn))

-- one place and the same after the change: a zero of either sign is one x or y, and H tells what becomes of a player's heading
pub data ChangedPlace (a b : Bool) (H : Float → Float → Type 0) : Placement → Placement → Type 0 where
  none : ChangedPlace a b H NoPlace NoPlace
  ball : {x y z x' y' : Float} → Alike x' (signed a x) → Alike y' (signed b y) → ChangedPlace a b H (BallAt x y z) (BallAt x' y' z)
  player : {side : Side} {number : ℕ} {x y theta x' y' theta' : Float} → Alike x' (signed a x) → Alike y' (signed b y) → H theta theta' → ChangedPlace a b H (PlayerAt side number x y theta) (PlayerAt side number x' y' theta')

-- a heading that is kept, as a goalkeeper's own, or one that is given and changes
abbrev pub ChangedHeading : Bool → Bool → Bool → Float → Float → Type 0
ChangedHeading a b true theta theta' = theta' ≡ theta
ChangedHeading a b false theta theta' = GivenHeading a b theta theta'
