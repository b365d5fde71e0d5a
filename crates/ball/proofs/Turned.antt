-- The ball judgment is the same after a change of signs, but, where x changes its sign, for the throw-in of a ball that went out at x zero and was touched by nobody.
-- There the side is the one in whose half the ball is, x zero is in the right half before and after the change, and the change exchanges the ends. Assumes nothing.
use mathlib.Core.Path.{◌≡◌, refl, sym, ap, ap₂, ◌∙◌, subst}
use mathlib.Core.Logic.{inl, inr}
use mathlib.Core.Bool.{Bool, true, false, not, cond, ◌&&◌}
use Prim.Native.Nat.{ℕ}
use native.Mathlib.Nat.{le_antisymm}
use native.Mathlib.Omega.{arith}
use borrow.Author.Tests.{eq-eqb}
use lib.Dec.{T}
use lib.Ieee.{Float, binary32, neg, lt, eq, of_bits}
use Rattle.lists.proofs.Bools.{both_true}
use Rattle.floats.specs.Arithmetic.{◌+₃₂◌, ◌*₃₂◌, zero32, half}
use Rattle.floats.specs.Leaves.{abs, with_sign}
use Rattle.floats.specs.Height.{height}
use Rattle.floats.specs.Values.{pos_zero, Alike, Number}
use Rattle.floats.proofs.Laws.Signs.{alike_sym, alike_trans, alike_abs, alike_neg, lt_neg}
use Rattle.floats.proofs.Laws.Zeros.{alike_lt_left, alike_lt_right, alike_eq, zero_plain, zero_alike}
use Rattle.floats.proofs.Laws.Height.{height_eq}
use Rattle.floats.proofs.Laws.Order.{lt→<, nlt→≤, pos_zero_number, neg_number}
use Rattle.game.specs.Game.{opponent, is_shootout}
use Rattle.game.specs.declared.Ball.{Ball}
use Rattle.game.specs.declared.FieldDimensions.{FieldDimensions}
use Rattle.game.specs.declared.Game.{Game}
use Rattle.game.specs.declared.Side.{Side}
use Rattle.game.specs.declared.Side.TheVariants.{Home, Away}
use Rattle.game.specs.declared.SideMapping.{SideMapping}
use Rattle.game.specs.declared.SideMapping.TheVariants.{HomeDefendsLeftGoal, HomeDefendsRightGoal}
use Rattle.geometry.specs.Geometry.{side_to_sign}
use Rattle.geometry.specs.Turned.{signed, changed_ball, exchanged, changed_ends, changed_game}
use Rattle.geometry.proofs.Turned.{abs_changed, team_changed, sign_changed}
use Rattle.ball.specs.Ball.{judge_goal, past_goal_line, past_touchline, in_goal, defender_of, defending_side, shot_taken, judge_shot, judge_shootout, players_of, throw_in_side, judge_half, judge_play, is_running, ball_judgment}
use Rattle.ball.specs.Turned.{is_zero, is_none, is_in_play, is_between_halves, is_excepted}
use Rattle.game.specs.declared.BallJudgment.{BallJudgment}
use Rattle.game.specs.declared.BallJudgment.TheVariants.{NoJudgment, ThrowIn}
use Rattle.ball.proofs.Sizes.{Sized, goal_line_edge, middle_inside}
use Rattle.std.specs.Prelude.{Option, None, Some}
use Rattle.game.specs.declared.Restart.{Restart}

-- ---- where the ball is
past_goal_line_changed : (a b : Bool) (f : FieldDimensions) (ball : Ball) → past_goal_line f (changed_ball a b ball) ≡ past_goal_line f ball
past_goal_line_changed a b f ball = ap (lt (goal_line_edge f)) (abs_changed a ball.x)

pub past_touchline_changed : (a b : Bool) (f : FieldDimensions) (ball : Ball) → past_touchline f (changed_ball a b ball) ≡ past_touchline f ball
past_touchline_changed a b f ball = ap (lt (f.width *₃₂ half +₃₂ f.ball_radius)) (abs_changed b ball.y)

in_goal_changed : (a b : Bool) (f : FieldDimensions) (ball : Ball) → in_goal f (changed_ball a b ball) ≡ in_goal f ball
in_goal_changed a b f ball = cc (abs_changed b ball.y)

-- ---- the judgments that ask for no half
shot_changed : (a b : Bool) (kicking : Side) (sign : Float) (f : FieldDimensions) (ball : Ball) (over : Bool) → judge_shot kicking (signed a sign) f (changed_ball a b ball) over ≡ judge_shot kicking sign f ball over
unfolding judge_shot
shot_changed a b kicking sign f ball over =
    cc (past_goal_line_changed a b f ball, past_touchline_changed a b f ball, in_goal_changed a b f ball, team_changed a sign ball.x)

shootout_changed : (a b : Bool) (kicking : Option Side) (sides : SideMapping) (f : FieldDimensions) (ball : Ball) (restart : Option Restart) (rested : Bool) → judge_shootout kicking (changed_ends a sides) f (changed_ball a b ball) restart rested ≡ judge_shootout kicking sides f ball restart rested
shootout_changed a b None sides f ball restart rested = refl
shootout_changed a b (Some side) sides f ball restart rested =
    ap (λ (s : Float). judge_shot side s f (changed_ball a b ball) (shot_taken restart && rested)) (sign_changed a side sides)
    ∙ shot_changed a b side (side_to_sign side sides) f ball (shot_taken restart && rested)

half_changed : (a b : Bool) (f : FieldDimensions) (ball : Ball) (goal : Option BallJudgment) (contact : Option Side) (d : Side) → judge_half f (changed_ball a b ball) goal contact d ≡ judge_half f ball goal contact d
unfolding judge_half
half_changed a b f ball goal contact d = cc (past_goal_line_changed a b f ball, past_touchline_changed a b f ball, in_goal_changed a b f ball)

-- ---- the half that holds the ball
zeros_alike : Alike pos_zero (neg pos_zero)
unfolding neg with_sign
zeros_alike = inr (refl, refl)

-- a number that is no zero is on one side of it
on_one_side : (x : Float) → Number binary32 x → is_zero x ≡ false → lt x pos_zero ≡ not (lt pos_zero x)
on_one_side x n z = go (lt x pos_zero) (lt pos_zero x) refl refl
  where
    level : lt x pos_zero ≡ false → lt pos_zero x ≡ false → height binary32 x ≡ height binary32 pos_zero
    level u v = le_antisymm (nlt→≤ binary32 pos_zero x (pos_zero_number binary32) n v) (nlt→≤ binary32 x pos_zero n (pos_zero_number binary32) u)

    is_zero_holds : height binary32 x ≡ height binary32 pos_zero → is_zero x ≡ true
    is_zero_holds e =
        ap (eq x) zero_plain ∙ height_eq binary32 x pos_zero n.fit (pos_zero_number binary32).fit n.no_nan (pos_zero_number binary32).no_nan ∙ eq-eqb _ _ e

    go : (p q : Bool) → lt x pos_zero ≡ p → lt pos_zero x ≡ q → p ≡ not q
    go true true u v = absurd (omega (arith, lt→< binary32 x pos_zero n (pos_zero_number binary32) u, lt→< binary32 pos_zero x (pos_zero_number binary32) n v))
    go true false u v = refl
    go false true u v = refl
    go false false u v = absurd (subst T (sym (is_zero_holds (level u v)) ∙ z) tt)

-- so that its negative is on the other
turned_side : (x : Float) → Number binary32 x → is_zero x ≡ false → lt zero32 (neg x) ≡ not (lt zero32 x)
turned_side x n z =
    ap (λ (o : Float). lt o (neg x)) zero_plain ∙ alike_lt_left pos_zero (neg pos_zero) (neg x) zeros_alike ∙ lt_neg x pos_zero ∙ on_one_side x n z ∙ ap (λ (o : Float). not (lt o x)) (sym zero_plain)

other_half : (sides : SideMapping) (left : Bool) → defender_of (exchanged sides) (not left) ≡ defender_of sides left
other_half HomeDefendsLeftGoal true = refl
other_half HomeDefendsLeftGoal false = refl
other_half HomeDefendsRightGoal true = refl
other_half HomeDefendsRightGoal false = refl

same_half : (sides : SideMapping) (left : Bool) → defender_of (exchanged sides) left ≡ opponent (defender_of sides left)
same_half HomeDefendsLeftGoal true = refl
same_half HomeDefendsLeftGoal false = refl
same_half HomeDefendsRightGoal true = refl
same_half HomeDefendsRightGoal false = refl

defending_turned : (b : Bool) (sides : SideMapping) (ball : Ball) → Number binary32 ball.x → is_zero ball.x ≡ false → defending_side (exchanged sides) (changed_ball true b ball) ≡ defending_side sides ball
defending_turned b sides ball n z = ap (defender_of (exchanged sides)) (turned_side ball.x n z) ∙ other_half sides (lt zero32 ball.x)

-- ---- a ball at x zero
-- it is not past a goal line
not_past : (f : FieldDimensions) (ball : Ball) → Number binary32 ball.x → lt (goal_line_edge f) pos_zero ≡ false → is_zero ball.x ≡ true → past_goal_line f ball ≡ false
not_past f ball n m z = ap (lt (goal_line_edge f)) (alike_abs ball.x pos_zero (zero_alike ball.x n z) ∙ plain) ∙ m
  where
    plain : abs pos_zero ≡ pos_zero
    plain = unfold with_sign in refl

-- so that at most a throw-in is left
at_touchline : (f : FieldDimensions) (ball : Ball) (goal : Option BallJudgment) (contact : Option Side) (d : Side) → past_goal_line f ball ≡ false → judge_half f ball goal contact d ≡ cond (past_touchline f ball) (ThrowIn (throw_in_side contact d)) NoJudgment
unfolding judge_half
at_touchline f ball goal contact d e = simp e

-- whose side does not matter unless it is past a touchline and nobody has touched it
settled : (past : Bool) (contact : Option Side) (d d' : Side) → past && is_none contact ≡ false → cond past (ThrowIn (throw_in_side contact d)) NoJudgment ≡ cond past (ThrowIn (throw_in_side contact d')) NoJudgment
settled false contact d d' e = refl
settled true (Some side) d d' e = refl
settled true None d d' e = absurd (subst T e tt)

-- ---- in play
module _ (f : FieldDimensions) (contact : Option Side) (restart : Option Restart) (judged : Bool) (home away : ℕ) where
  -- the judgment by the side in whose half the ball is
  abbrev by_half : Ball → Side → BallJudgment
  by_half ball d = judge_play d f ball contact restart judged home away

  -- and what becomes of a goal
  abbrev goal_of : Side → Option BallJudgment
  goal_of d = judge_goal judged restart (opponent d) (players_of (opponent d) home away)

  by_half_changed : (a b : Bool) (ball : Ball) (d : Side) → by_half (changed_ball a b ball) d ≡ by_half ball d
  by_half_changed a b ball d = half_changed a b f ball (goal_of d) contact d

  at_zero : (ball : Ball) (d d' : Side) → Number binary32 ball.x → lt (goal_line_edge f) pos_zero ≡ false → is_zero ball.x ≡ true → is_between_halves f ball contact ≡ false → by_half ball d ≡ by_half ball d'
  at_zero ball d d' n m z e =
      at_touchline f ball (goal_of d) contact d (not_past f ball n m z)
      ∙ settled (past_touchline f ball) contact d d' (sym (ap (λ (o : Bool). o && past_touchline f ball && is_none contact) z) ∙ e)
      ∙ sym (at_touchline f ball (goal_of d') contact d' (not_past f ball n m z))

  play_turned : (b : Bool) (sides : SideMapping) (ball : Ball) → Number binary32 ball.x → lt (goal_line_edge f) pos_zero ≡ false → is_between_halves f ball contact ≡ false → by_half (changed_ball true b ball) (defending_side (exchanged sides) (changed_ball true b ball)) ≡ by_half ball (defending_side sides ball)
  play_turned b sides ball n m e = by_half_changed true b ball (defending_side (exchanged sides) (changed_ball true b ball)) ∙ go (is_zero ball.x) refl
    where
      go : (z : Bool) → is_zero ball.x ≡ z → by_half ball (defending_side (exchanged sides) (changed_ball true b ball)) ≡ by_half ball (defending_side sides ball)
      go true z = at_zero ball (defending_side (exchanged sides) (changed_ball true b ball)) (defending_side sides ball) n m z e
      go false z = ap (by_half ball) (defending_turned b sides ball n z)

  play_changed : (a b : Bool) (sides : SideMapping) (ball : Ball) → Number binary32 ball.x → lt (goal_line_edge f) pos_zero ≡ false → a && is_between_halves f ball contact ≡ false → by_half (changed_ball a b ball) (defending_side (changed_ends a sides) (changed_ball a b ball)) ≡ by_half ball (defending_side sides ball)
  play_changed true b sides ball n m e = play_turned b sides ball n m e
  play_changed false b sides ball n m e = by_half_changed false b ball (defending_side sides ball)

-- ---- in every phase
by_phase : (running shootout : Bool) {j j' k k' : BallJudgment} → j ≡ j' → (running && not shootout ≡ true → k ≡ k') → cond running (cond shootout j k) NoJudgment ≡ cond running (cond shootout j' k') NoJudgment
by_phase true true p q = p
by_phase true false p q = q refl
by_phase false shootout p q = refl

unless : (a p q : Bool) → a && (p && q) ≡ false → p ≡ true → a && q ≡ false
unless true p q e h = sym (ap (λ (z : Bool). z && q) h) ∙ e
unless false p q e h = refl

-- the law: where x changes its sign, the exception is left out
pub judgment_changed : (a b : Bool) (g : Game) (f : FieldDimensions) (ball : Ball) (contact : Option Side) (restart : Option Restart) (judged rested : Bool) (home away : ℕ) → Number binary32 ball.x → Sized f → a && is_excepted g f ball contact ≡ false → ball_judgment (changed_game a g) f (changed_ball a b ball) contact restart judged rested home away ≡ ball_judgment g f ball contact restart judged rested home away
unfolding ball_judgment
judgment_changed a b g f ball contact restart judged rested home away n s e =
    by_phase (is_running g) (is_shootout g.phase)
    (shootout_changed a b g.kicking_side g.sides f ball restart rested)
    (λ h. play_changed f contact restart judged home away a b g.sides ball n (middle_inside f s) (unless a (is_in_play g) (is_between_halves f ball contact) e h))

-- ---- the exception
untouched : (contact : Option Side) → is_none contact ≡ true → contact ≡ None
untouched None e = refl
untouched (Some side) e = absurd (subst T (sym e) tt)

in_play : (running shootout : Bool) (j k k' : BallJudgment) → running && not shootout ≡ true → k ≡ k' → cond running (cond shootout j k) NoJudgment ≡ k'
in_play true true j k k' e p = absurd (subst T (sym e) tt)
in_play true false j k k' e p = p
in_play false shootout j k k' e p = absurd (subst T (sym e) tt)

-- a throw-in for the side in whose half the ball is
thrown : (g : Game) (f : FieldDimensions) (ball : Ball) (contact : Option Side) (restart : Option Restart) (judged rested : Bool) (home away : ℕ) → Number binary32 ball.x → Sized f → is_excepted g f ball contact ≡ true → ball_judgment g f ball contact restart judged rested home away ≡ ThrowIn (defending_side g.sides ball)
unfolding ball_judgment
thrown g f ball contact restart judged rested home away n s e =
    let parts = both_true (is_in_play g) (is_between_halves f ball contact) e in
    let place = both_true (is_zero ball.x && past_touchline f ball) (is_none contact) parts.1 in
    let out = both_true (is_zero ball.x) (past_touchline f ball) place.0 in
    let d = defending_side g.sides ball in
    in_play (is_running g) (is_shootout g.phase) (judge_shootout g.kicking_side g.sides f ball restart rested) (judge_play d f ball contact restart judged home away) (ThrowIn d) parts.0
    (at_touchline f ball (judge_goal judged restart (opponent d) (players_of (opponent d) home away)) contact d (not_past f ball n (middle_inside f s) out.0)
    ∙ ap₂ (λ (p : Bool) (c : Option Side). cond p (ThrowIn (throw_in_side c d)) NoJudgment) out.1 (untouched contact place.1))

-- a zero is on neither side, before and after the turn
not_left : (x : Float) → Alike x pos_zero → lt zero32 x ≡ false
not_left x h = alike_lt_right zero32 x pos_zero h ∙ plain
  where
    plain : lt zero32 pos_zero ≡ false
    plain = unfold lt of_bits in refl

neg_alike : (x : Float) → Alike x pos_zero → Alike (neg x) pos_zero
neg_alike x h = alike_trans (neg x) (neg pos_zero) pos_zero (alike_neg x pos_zero h) (alike_sym pos_zero (neg pos_zero) zeros_alike)

neg_zero : (x : Float) → Alike x pos_zero → is_zero (neg x) ≡ true
neg_zero x h = alike_eq (neg x) pos_zero zero32 pos_zero (neg_alike x h) (inl zero_plain) ∙ plain
  where
    plain : eq pos_zero pos_zero ≡ true
    plain = unfold eq in refl

-- the exception holds after the change too
pub excepted_changed : (b : Bool) (g : Game) (f : FieldDimensions) (ball : Ball) (contact : Option Side) → Number binary32 ball.x → is_excepted g f ball contact ≡ true → is_excepted (changed_game true g) f (changed_ball true b ball) contact ≡ true
excepted_changed b g f ball contact n e =
    let parts = both_true (is_in_play g) (is_between_halves f ball contact) e in
    let place = both_true (is_zero ball.x && past_touchline f ball) (is_none contact) parts.1 in
    let out = both_true (is_zero ball.x) (past_touchline f ball) place.0 in
    simp (parts.0, neg_zero ball.x (zero_alike ball.x n out.0), past_touchline_changed true b f ball, out.1, place.1)

-- where the change of x changes the judgment: both are throw-ins, for one side and for the other
pub judgment_excepted : (b : Bool) (g : Game) (f : FieldDimensions) (ball : Ball) (contact : Option Side) (restart : Option Restart) (judged rested : Bool) (home away : ℕ) → Number binary32 ball.x → Sized f → is_excepted g f ball contact ≡ true → (ball_judgment g f ball contact restart judged rested home away ≡ ThrowIn (defending_side g.sides ball)) × (ball_judgment (changed_game true g) f (changed_ball true b ball) contact restart judged rested home away ≡ ThrowIn (opponent (defending_side g.sides ball)))
judgment_excepted b g f ball contact restart judged rested home away n s e =
    let parts = both_true (is_in_play g) (is_between_halves f ball contact) e in
    let place = both_true (is_zero ball.x && past_touchline f ball) (is_none contact) parts.1 in
    let zero = zero_alike ball.x n (both_true (is_zero ball.x) (past_touchline f ball) place.0).0 in
    let side : defending_side (exchanged g.sides) (changed_ball true b ball) ≡ opponent (defending_side g.sides ball) = ap (defender_of (exchanged g.sides)) (not_left (neg ball.x) (neg_alike ball.x zero) ∙ sym (not_left ball.x zero)) ∙ same_half g.sides (lt zero32 ball.x) in (
      thrown g f ball contact restart judged rested home away n s e,
      thrown (changed_game true g) f (changed_ball true b ball) contact restart judged rested home away (neg_number binary32 ball.x n) s (excepted_changed b g f ball contact n e) ∙ ap ThrowIn side,
    )

two_sides : (d : Side) → ThrowIn d ≡ ThrowIn (opponent d) → ⊥
two_sides Home e = let z : ◌≡◌ {A = ℕ} 0 1 = cc in omega arith
two_sides Away e = let z : ◌≡◌ {A = ℕ} 0 1 = cc in omega arith

-- so that they are not equal: with `judgment_changed`, the judgments are equal if and only if it is not the exception
pub judgment_differs : (a b : Bool) (g : Game) (f : FieldDimensions) (ball : Ball) (contact : Option Side) (restart : Option Restart) (judged rested : Bool) (home away : ℕ) → Number binary32 ball.x → Sized f → a && is_excepted g f ball contact ≡ true → ball_judgment (changed_game a g) f (changed_ball a b ball) contact restart judged rested home away ≡ ball_judgment g f ball contact restart judged rested home away → ⊥
judgment_differs true b g f ball contact restart judged rested home away n s e same =
    let two = judgment_excepted b g f ball contact restart judged rested home away n s e in
    two_sides (defending_side g.sides ball) (sym two.0 ∙ sym same ∙ two.1)
judgment_differs false b g f ball contact restart judged rested home away n s e same = subst T (sym e) tt
