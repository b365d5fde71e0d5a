-- Playing frames in a row: what is kept between frames, and what a frame and a touch of the ball make of it. Each part has the name of the function of the original that it is from, and `update` has
-- them in the original's order. Definitions only.
use Rattle.std.specs.Prelude.{Bool, true, false, not, cond, ◌&&◌, List, ℕ, ◌≡◌, eqb, ltb, replicate, Float, Option, None, Some, Result}
use Rattle.lists.specs.Refusals.{Requirement, first_refusal}
use Rattle.floats.specs.Arithmetic.{zero32}
use Rattle.game.specs.Game.{is_shootout, is_set}
use Rattle.game.specs.Players.{team_of}
use Rattle.game.specs.declared.Ball.{Ball}
use Rattle.game.specs.declared.Decision.{Decision}
use Rattle.game.specs.declared.Game.{Game}
use Rattle.game.specs.declared.SetPlay.{SetPlay}
use Rattle.game.specs.declared.SetPlay.TheVariants.{NoSetPlay, KickOff, DirectFreeKick, IndirectFreeKick, PenaltyKick, ThrowIn, GoalKick, CornerKick}
use Rattle.game.specs.declared.Side.{Side}
use Rattle.game.specs.declared.Side.TheVariants.{Home, Away}
use Rattle.game.specs.declared.SideDecision.{SideDecision}
use Rattle.game.specs.declared.Situation.{Situation}
use Rattle.positioning.specs.Positioning.{is_set_play}
use Rattle.counts.specs.Counts.{players_on_field}
use Rattle.kicker.specs.Kicker.{determine_kicking_player}
use Rattle.refusal.specs.Refusal.{unless_refused}
use Rattle.refusal.specs.declared.Refusal.{Refusal}
use Rattle.refusals.specs.Refusals.{field_fits, poses_fit, ball_fits, numbers_fit, distance_fits, five}
use Rattle.decision.specs.Decision.{side_margins, decision_of, empty_decision}
use Rattle.restarts.specs.Restarts.{touched_restart, observed_restart, tracked_restart}
use Rattle.restarts.specs.declared.TouchCall.{TouchCall}
use Rattle.restarts.specs.declared.TouchedRestart.{TouchedRestart}
use Rattle.remembered.specs.Remembered as Kept
use Rattle.remembered.specs.Remembered.{nothing, observe_players, returning_players, avoidance_players, judged_team, last_seen_team}
use Rattle.remembered.specs.declared.Remembered.{Remembered}
use Rattle.penalties.specs.Penalties as Penalties
use Rattle.penalties.specs.Penalties.{inside_players}
use Rattle.penalties.specs.declared.Penalized.{Penalized}
use Rattle.memory_fits.specs.MemoryFits.{allowances_fit, kick_fits, memory_numbers_fit}
use Rattle.frames.specs.declared.Memory.{Memory}
use Rattle.frames.specs.declared.Touch.{Touch}
use Rattle.frames.specs.declared.Events.{Events}
use Rattle.frames.specs.declared.Calls.{Calls}
use Rattle.frames.specs.declared.Touched.{Touched}
use Rattle.frames.specs.declared.Framed.{Framed}
use Rattle.game.specs.declared.Margins.{Margins}
use Rattle.game.specs.declared.Restart.{Restart}

-- ---- the memory
-- where the ball is before the first frame
abbrev pub origin_ball : Ball
origin_ball = record { x = zero32; y = zero32; z = zero32 }

-- with which the original begins
unfoldable pub new_memory : Memory
new_memory = record { home = replicate 20 nothing; away = replicate 20 nothing; kicking_player = None; restart = None; ball = origin_ball }

-- what is remembered of a side's players
abbrev pub remembered_of : Memory → Side → List Remembered
remembered_of m Home = m.home
remembered_of m Away = m.away

-- with another memory of the players
abbrev pub with_players : (Side → List Remembered → List Remembered) → Memory → Memory
with_players h m = record { home = h Home m.home; away = h Away m.away; kicking_player = m.kicking_player; restart = m.restart; ball = m.ball }

-- ---- the events; one that the frame's own game rules out counts as unset
-- a set play has just begun, and one is on
abbrev pub is_begun : Game → Events → Bool
is_begun g e = e.set_play_begun && is_set_play g.set_play

-- one has just ended, and none is on
abbrev pub is_ended : Game → Events → Bool
is_ended g e = e.set_play_ended && not (is_set_play g.set_play)

-- Set has just begun, and it is Set
abbrev pub is_set_begun : Game → Events → Bool
is_set_begun g e = e.set_begun && is_set g.state

-- who touches the ball
abbrev pub toucher : Option Touch → Option ℕ
toucher None = None
toucher (Some t) = Some t.number

-- the side that touched the ball last: that of the touch, new or not, otherwise as the frame says
abbrev pub contact_by : Option Touch → Option Side → Option Side
contact_by None last = last
contact_by (Some t) last = Some t.side

-- ---- ball_contact
-- how many players of a side were on the field: those present in the last frame, by the frame's own penalties
abbrev pub players_before : Memory → Situation → Side → ℕ
players_before m s side = players_on_field (last_seen_team (team_of s side) (remembered_of m side))

-- with another restart
abbrev pub with_restart : Memory → Option Restart → Memory
with_restart m r = record { home = m.home; away = m.away; kicking_player = m.kicking_player; restart = r; ball = m.ball }

abbrev pub with_touched : Memory → TouchedRestart → Touched
with_touched m t = record { memory = with_restart m t.restart; call = t.call }

-- a new touch is one of the restart that came in, against the frame's own game, where the ball was in the last frame
unfoldable pub ball_contact : Option Touch → Situation → Memory → Touched
ball_contact None s m = record { memory = m; call = None }
ball_contact (Some t) s m =
    cond t.is_new (with_touched m (touched_restart s.game s.field m.ball t.side t.number (players_before m s t.side) m.restart)) (record { memory = m; call = None })

-- ---- observe
-- kick-offs and penalty kicks have a kicking player
abbrev pub has_kicking_player : SetPlay → Bool
has_kicking_player NoSetPlay = false
has_kicking_player KickOff = true
has_kicking_player DirectFreeKick = false
has_kicking_player IndirectFreeKick = false
has_kicking_player PenaltyKick = true
has_kicking_player ThrowIn = false
has_kicking_player GoalKick = false
has_kicking_player CornerKick = false

-- the kicking player once Set has just begun, by the side that kicks
abbrev pub kicker_in_set : Option Side → Situation → Option ℕ → Option ℕ
kicker_in_set None s k = k
kicker_in_set (Some side) s k = determine_kicking_player s.game (team_of s side) s.field (side_margins s side) side

-- none once a set play has just begun
abbrev pub kept_kicker : Bool → Option ℕ → Option ℕ
kept_kicker began k = cond began None k

-- and then chosen anew once Set has just begun for a kick-off or a penalty kick outside a shoot-out
unfoldable pub observed_kicker : Situation → Bool → Bool → Option ℕ → Option ℕ
observed_kicker s began set k =
    cond (set && not (is_shootout s.game.phase) && has_kicking_player s.game.set_play) (kicker_in_set s.game.kicking_side s (kept_kicker began k)) (kept_kicker began k)

-- what changes of the game make of the memory
unfoldable pub observe : Situation → Events → Memory → Memory
observe s e m =
    record {
      home = observe_players (is_begun s.game e) m.home;
      away = observe_players (is_begun s.game e) m.away;
      kicking_player = observed_kicker s (is_begun s.game e) (is_set_begun s.game e) m.kicking_player;
      restart = observed_restart s.game (is_begun s.game e) (is_ended s.game e) (is_set_begun s.game e) m.restart;
      ball = m.ball;
    }

-- ---- the parts of `update`
unfoldable pub detect_movement : Situation → Memory → Memory
detect_movement s m = with_players (λ side l. Kept.detect_movement (team_of s side) l) m

unfoldable pub track_ball : Situation → Memory → Memory
track_ball s m = record { home = m.home; away = m.away; kicking_player = m.kicking_player; restart = tracked_restart m.restart s.ball; ball = s.ball }

unfoldable pub update_returning : Situation → Memory → Memory
update_returning s m = with_players (λ side l. returning_players (team_of s side) s.field l) m

unfoldable pub update_avoidance : Situation → Memory → Memory
update_avoidance s m = with_players (λ side l. avoidance_players s.game s.field s.ball side (team_of s side) (side_margins s side) l) m

-- up to penalize_players
unfoldable pub update : Situation → Events → Memory → Memory
update s e m = update_avoidance s (update_returning s (track_ball s (detect_movement s (observe s e m))))

-- ---- the frame as it is judged: four things are replaced. Allowances are the memory's as updated, with the tolerance, 0 where there is none; who was inside its goal area is the memory's as it came in,
-- which only penalize_players changes; the Restart is the memory's as it goes out; the last contact is by the touch
unfoldable pub judged_frame : Situation → Option Touch → Memory → Situation
judged_frame s t m =
    record {
      field = s.field;
      penalty_placement_distance = s.penalty_placement_distance;
      game = s.game;
      home = judged_team s.home m.home;
      away = judged_team s.away m.away;
      ball = s.ball;
      last_contact = contact_by t s.last_contact;
      restart = m.restart;
      invalid_goals_judged = s.invalid_goals_judged;
      ball_rested = s.ball_rested;
      wish = s.wish;
    }

-- ---- penalize_players
-- of one side, by its part of the frame's decision; k is the kicking player before it
unfoldable pub penalize_side : Situation → Bool → SideDecision → Side → Memory → Option ℕ → Penalized
penalize_side j grace d side m k = Penalties.penalize_players j.game j.field (team_of j side) d.verdicts d.excess (remembered_of m side) grace k

-- who is inside its goal area, for the next frame
abbrev pub inside_now : Situation → Memory → Memory
inside_now j m = with_players (λ side l. inside_players (team_of j side) (side_margins j side) l) m

-- with another kicking player
abbrev pub with_kicking : Option ℕ → Memory → Memory
with_kicking k m = record { home = m.home; away = m.away; kicking_player = k; restart = m.restart; ball = m.ball }

-- both sides in turn, Home first, since the first may name the kicking player; j is the frame as it is judged and d its decision
unfoldable pub penalize_players : Situation → Bool → Option TouchCall → Decision → Memory → Framed
penalize_players j grace call d m =
    let home = penalize_side j grace d.home Home m m.kicking_player in
    let away = penalize_side j grace d.away Away m home.kicking_player in
    record {
      memory = with_kicking away.kicking_player (inside_now j m);
      calls = record { touch = call; home = home.calls; away = away.calls };
      decision = d;
    }

-- ---- a frame
-- after its touch, whose call is handed on: the memory is updated, the frame as it is judged is decided on, and the players are penalised
unfoldable pub frame_of : Situation → Events → List Float → List Float → Option TouchCall → Memory → Framed
frame_of s e xs ys call m =
    let next = update s e m in
    let judged = judged_frame s e.touch next in
    penalize_players judged e.grace_over call (decision_of judged xs ys) next

-- the touch first, then the frame
unfoldable pub played_frame : Memory → Situation → Events → List Float → List Float → Framed
played_frame m s e xs ys =
    let t = ball_contact e.touch s m in
    frame_of s e xs ys t.call t.memory

-- ---- what is refused: of the frame as of a situation, and of the memory and the touch; the lowest number of all
unfoldable pub step_requirements : Memory → Situation → Events → List Float → List Float → List Requirement
step_requirements m s e xs ys =
    five
    (field_fits s.field)
    (poses_fit s.home s.away xs ys && (allowances_fit m.home && allowances_fit m.away))
    (ball_fits s.ball && (ball_fits m.ball && kick_fits m.restart))
    (numbers_fit s.home.goalkeeper s.away.goalkeeper s.restart s.wish && memory_numbers_fit m.kicking_player m.restart (toucher e.touch))
    (distance_fits s.penalty_placement_distance)

unfoldable pub step_refusal : Memory → Situation → Events → List Float → List Float → ℕ
step_refusal m s e xs ys = first_refusal (step_requirements m s e xs ys)

-- ---- the step
-- nobody is called
unfoldable pub no_calls : Calls
no_calls = record { touch = None; home = replicate 20 None; away = replicate 20 None }

-- what a step gives: the number of the refusal or 0, the memory after it, the calls and the decision
pub record Step : Type 0 where
  pub refusal : ℕ
  pub memory : Memory
  pub calls : Calls
  pub decision : Decision

abbrev pub accepted : Framed → Step
accepted f = record { refusal = 0; memory = f.memory; calls = f.calls; decision = f.decision }

-- the memory as it came in, no calls and the empty decision
abbrev pub refused : ℕ → Memory → Step
refused n m = record { refusal = n; memory = m; calls = no_calls; decision = empty_decision }

unfoldable pub step_of : Memory → Situation → Events → List Float → List Float → Step
step_of m s e xs ys = cond (eqb (step_refusal m s e xs ys) 0) (accepted (played_frame m s e xs ys)) (refused (step_refusal m s e xs ys) m)

-- a step by its number: the frame beside 0, otherwise the refusal alone, since the memory stays as it came in
abbrev pub played : Step → Result Framed Refusal
played s = unless_refused s.refusal (record { memory = s.memory; calls = s.calls; decision = s.decision })

-- ---- of the private functions
-- the margins of both sides' players
abbrev pub AreMargins : Situation → List (Option Margins) → List (Option Margins) → Type 0
AreMargins s home away = (home ≡ side_margins s Home) × (away ≡ side_margins s Away)

-- the lower of two refusals, of which 0 is none
abbrev pub lower : ℕ → ℕ → ℕ
lower a b = cond (eqb a 0) b (cond (eqb b 0) a (cond (ltb a b) a b))
