-- The Restart record that is in effect: what a touch of the ball, a change of the game and the way of the ball make of it. Definitions only.
use Rattle.std.specs.Prelude.{Bool, true, false, not, cond, ◌&&◌, ◌||◌, ℕ, eqb, leb, Float, Option, None, Some}
use Rattle.std.specs.Float.{binary32}
use Rattle.std.specs.Float.Ieee.{of_bits, lt, le}
use Rattle.floats.specs.Arithmetic.{◌+₃₂◌, ◌-₃₂◌, ◌*₃₂◌, zero32, two}
use Rattle.hypot.specs.Hypot.{hypot}
use Rattle.game.specs.Game.{opponent, same_side, is_shootout, is_playing}
use Rattle.game.specs.declared.Ball.{Ball}
use Rattle.game.specs.declared.FieldDimensions.{FieldDimensions}
use Rattle.game.specs.declared.Game.{Game}
use Rattle.game.specs.declared.Restart.{Restart}
use Rattle.game.specs.declared.RestartKind.{RestartKind}
use Rattle.game.specs.declared.RestartKind.TheVariants as kind
use Rattle.game.specs.declared.SetPlay.{SetPlay}
use Rattle.game.specs.declared.SetPlay.TheVariants.{NoSetPlay, KickOff, DirectFreeKick, IndirectFreeKick, PenaltyKick, ThrowIn, GoalKick, CornerKick}
use Rattle.game.specs.declared.Side.{Side}
use Rattle.game.specs.declared.State.{State}
use Rattle.game.specs.declared.State.TheVariants.{Initial, Ready, Set, Playing, Finished, Timeout}
use Rattle.ball.specs.Ball.{is_penalty_shot, has_kicker}
use Rattle.restarts.specs.declared.TouchCall.TheVariants as call
use Rattle.restarts.specs.declared.TouchedRestart.{TouchedRestart}

-- 0.1, the distance the ball must have moved after a kick to have clearly moved
abbrev pub ball_clearly_moved_distance : Float
ball_clearly_moved_distance = of_bits binary32 0x3dcc_cccd

-- ---- the record
-- with another kicker, kick place and flags
abbrev pub restart_with : Restart → Option ℕ → Float → Float → Bool → Bool → Bool → Bool → Restart
restart_with r kicker x y other outside far moved =
    record {
      kind = r.kind;
      set_play = r.set_play;
      side = r.side;
      kicker = kicker;
      kick_x = x;
      kick_y = y;
      other_touch = other;
      kicker_touched_outside_center_circle = outside;
      kicker_touched_far_from_kick = far;
      ball_moved_since_kick = moved;
    }

-- how far the ball is from where it was kicked
abbrev pub kick_distance : Restart → Ball → Float
kick_distance r b = hypot (b.x -₃₂ r.kick_x) (b.y -₃₂ r.kick_y)

-- ---- ball_contact: a new touch, where the ball was in the last frame
-- the ball is outside the centre circle
abbrev pub is_outside_circle : FieldDimensions → Ball → Bool
is_outside_circle f b = lt (f.center_circle_radius +₃₂ f.ball_radius) (hypot b.x b.y)

-- a side with at most two players on the field touches the ball at least twice the centre circle's radius from the kick
abbrev pub is_far_from_kick : FieldDimensions → Restart → Ball → ℕ → Bool
is_far_from_kick f r b players = leb players 2 && le (two *₃₂ f.center_circle_radius) (kick_distance r b)

-- the first touch by the side that takes the restart is the kick
unfoldable pub kick_taken : Restart → ℕ → FieldDimensions → Ball → Restart
kick_taken r n f b =
    restart_with r (Some n) b.x b.y r.other_touch (r.kicker_touched_outside_center_circle || is_outside_circle f b) r.kicker_touched_far_from_kick r.ball_moved_since_kick

-- the kicker touches the ball again
unfoldable pub touched_again : Restart → FieldDimensions → Ball → ℕ → Restart
touched_again r f b players =
    restart_with r r.kicker r.kick_x r.kick_y r.other_touch (r.kicker_touched_outside_center_circle || is_outside_circle f b) (r.kicker_touched_far_from_kick || is_far_from_kick f r b players)
    r.ball_moved_since_kick

-- anybody else touches it, a mate of the kicker too
unfoldable pub touched_by_other : Restart → Restart
touched_by_other r = restart_with r r.kicker r.kick_x r.kick_y true r.kicker_touched_outside_center_circle r.kicker_touched_far_from_kick r.ball_moved_since_kick

-- by who has kicked; `own` tells that the touch is by the side that takes the restart
abbrev pub after_touch_by : Option ℕ → Restart → Bool → ℕ → FieldDimensions → Ball → ℕ → Restart
after_touch_by None r own n f b players = cond own (kick_taken r n f b) (touched_by_other r)
after_touch_by (Some k) r own n f b players = cond (own && eqb k n) (touched_again r f b players) (touched_by_other r)

-- after a touch by the player with the number n, whose side has so many players on the field
unfoldable pub after_touch : Restart → Bool → ℕ → FieldDimensions → Ball → ℕ → Restart
after_touch r own n f b players = after_touch_by r.kicker r own n f b players

-- the same by who has kicked: the kicker, before anybody else and after the ball has clearly moved
abbrev pub is_second_touch_by : Option ℕ → Restart → Bool → ℕ → Bool
is_second_touch_by None r own n = false
is_second_touch_by (Some k) r own n = own && eqb k n && (not r.other_touch && r.ball_moved_since_kick)

-- the kicker plays the ball a second time
unfoldable pub is_second_touch : Restart → Bool → ℕ → Bool
is_second_touch r own n = is_second_touch_by r.kicker r own n

-- throw-ins, goal kicks and corner kicks
abbrev pub forbids_second_touch : SetPlay → Bool
forbids_second_touch NoSetPlay = false
forbids_second_touch KickOff = false
forbids_second_touch DirectFreeKick = false
forbids_second_touch IndirectFreeKick = false
forbids_second_touch PenaltyKick = false
forbids_second_touch ThrowIn = true
forbids_second_touch GoalKick = true
forbids_second_touch CornerKick = true

-- the second touch of such a set play in Playing outside a shoot-out, by a side with at least three players on the field
abbrev pub is_double_touch : Game → SetPlay → ℕ → Bool
is_double_touch g play players = forbids_second_touch play && not (is_shootout g.phase) && is_playing g.state && leb 3 players

-- after the second touch by a player of this side: a penalty shot ends; a double touch lifts the restart and gives the opponents an indirect free kick
unfoldable pub after_second_touch : Game → Restart → Side → ℕ → TouchedRestart
after_second_touch g next side players =
    cond (is_penalty_shot next.kind) (record { restart = Some next; call = Some call.PenaltyShotEnded })
    (cond (is_double_touch g next.set_play players) (record { restart = None; call = Some (call.IndirectFreeKick (opponent side)) })
    (record { restart = Some next; call = None }))

-- the touch of a restart
abbrev pub restart_touched : Game → FieldDimensions → Ball → Side → ℕ → ℕ → Restart → TouchedRestart
restart_touched g f b side n players r =
    let own = same_side side r.side in
    let next = after_touch r own n f b players in
    cond (is_second_touch r own n) (after_second_touch g next side players) (record { restart = Some next; call = None })

-- where one is in effect
unfoldable pub touched_restart : Game → FieldDimensions → Ball → Side → ℕ → ℕ → Option Restart → TouchedRestart
touched_restart g f b side n players None = record { restart = None; call = None }
touched_restart g f b side n players (Some r) = restart_touched g f b side n players r

-- ---- observe: what changes of the game make of the restart
-- the kind of the restart that a set play begins
abbrev pub kind_of : SetPlay → RestartKind
kind_of NoSetPlay = kind.Direct
kind_of KickOff = kind.KickOff
kind_of DirectFreeKick = kind.Direct
kind_of IndirectFreeKick = kind.Indirect
kind_of PenaltyKick = kind.Direct
kind_of ThrowIn = kind.Indirect
kind_of GoalKick = kind.Direct
kind_of CornerKick = kind.Direct

-- a restart that begins: nobody has touched the ball
abbrev pub begun : RestartKind → SetPlay → Side → Restart
begun k play side =
    record {
      kind = k;
      set_play = play;
      side = side;
      kicker = None;
      kick_x = zero32;
      kick_y = zero32;
      other_touch = false;
      kicker_touched_outside_center_circle = false;
      kicker_touched_far_from_kick = false;
      ball_moved_since_kick = false;
    }

-- for the kicking side, none without one
abbrev pub begun_for : Option Side → RestartKind → SetPlay → Option Restart
begun_for None k play = None
begun_for (Some side) k play = Some (begun k play side)

-- a restart is in effect, and nobody has kicked
abbrev pub is_unkicked : Option Restart → Bool
is_unkicked None = false
is_unkicked (Some r) = not (has_kicker r.kicker)

-- the states in which a restart can be in effect
abbrev pub has_restarts : State → Bool
has_restarts Initial = false
has_restarts Ready = true
has_restarts Set = true
has_restarts Playing = true
has_restarts Finished = false
has_restarts Timeout = false

-- a set play has just begun
abbrev pub after_begun : Bool → Game → Option Restart → Option Restart
after_begun now g r = cond now (begun_for g.kicking_side (kind_of g.set_play) g.set_play) r

-- a set play has just ended: one that nobody has kicked has failed, which lifts all restrictions
abbrev pub after_ended : Bool → Game → Option Restart → Option Restart
after_ended now g r = cond (now && is_playing g.state && is_unkicked r) None r

-- no restart is in effect outside Ready, Set and Playing
abbrev pub after_state : Game → Option Restart → Option Restart
after_state g r = cond (has_restarts g.state) r None

-- Set has just begun: in a shoot-out with a penalty shot
abbrev pub after_set_begun : Bool → Game → Option Restart → Option Restart
after_set_begun now g r = cond (now && is_shootout g.phase) (begun_for g.kicking_side kind.PenaltyShot NoSetPlay) r

-- one after the other
unfoldable pub observed_restart : Game → Bool → Bool → Bool → Option Restart → Option Restart
observed_restart g began ended set r = after_set_begun set g (after_state g (after_ended ended g (after_begun began g r)))

-- ---- track_ball: whether the ball has clearly moved since the kick
abbrev pub tracked_by : Option ℕ → Restart → Ball → Restart
tracked_by None r b = r
tracked_by (Some k) r b =
    restart_with r (Some k) r.kick_x r.kick_y r.other_touch r.kicker_touched_outside_center_circle r.kicker_touched_far_from_kick
    (r.ball_moved_since_kick || lt ball_clearly_moved_distance (kick_distance r b))

-- where one is in effect
unfoldable pub tracked_restart : Option Restart → Ball → Option Restart
tracked_restart None b = None
tracked_restart (Some r) b = Some (tracked_by r.kicker r b)
