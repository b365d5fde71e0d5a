-- What a half-turn of the field or a mirror image in y leaves as it is: distances, margins, and where a player is. Each law is over both signs, so that it
-- serves the two. No law asks anything of the values. Assumes nothing.
use mathlib.Core.Path.{◌≡◌, refl, sym, ap, ap₂, ◌∙◌}
use mathlib.Core.Bool.{Bool, true, false}
use Prim.Native.Nat.{ℕ, zero, suc}
use mathlib.Core.List.{List, map}
use lib.ListN.{get_or, get_or-map}
use lib.Ieee.{Float, nan, binary32, neg}
use lib.Ieee.Fits.{add-fits, sub-fits}
use Rattle.floats.specs.Arithmetic.{◌+₃₂◌, ◌-₃₂◌, ◌*₃₂◌, half, one}
use Rattle.floats.specs.Leaves.{abs, minimum_number}
use Rattle.hypot.specs.Hypot.{hypot}
use Rattle.floats.proofs.Laws.Signs.{neg_neg, mul_neg_neg, sub_neg, sub_is_add, abs_neg, abs_sub_turned}
use Rattle.hypot.proofs.Laws.Signs.{hypot_by_abs}
use Rattle.floats.proofs.Laws.MinMax.{min_comm_f}
use Rattle.lists.proofs.Table.{table_same}
use Rattle.game.specs.Players.{nobody, player_at, player_numbered}
use Rattle.game.specs.declared.FieldDimensions.{FieldDimensions}
use Rattle.game.specs.declared.Player.{Player}
use Rattle.game.specs.declared.PlayerPose.{PlayerPose}
use Rattle.game.specs.declared.Side.{Side}
use Rattle.game.specs.declared.Side.TheVariants.{Home, Away}
use Rattle.game.specs.declared.SideMapping.{SideMapping}
use Rattle.game.specs.declared.SideMapping.TheVariants.{HomeDefendsLeftGoal, HomeDefendsRightGoal}
use Rattle.game.specs.declared.Team.{Team}
use Rattle.geometry.specs.Geometry.{side_to_sign, strip_margin, margins_of, seen_margins, player_margins, compute_margins, carpet_excess, seen_leaving, is_leaving_the_field, is_on_own_goal_line}
use Rattle.geometry.specs.Turned.{signed, changed_pose, changed_maybe_pose, changed_player, changed_team, changed_ends}
use Rattle.std.specs.Prelude.{Option, None, Some}

-- ---- signs, for whatever is measured by them
-- an x in team coordinates
pub team_changed : (a : Bool) (s x : Float) → signed a s *₃₂ signed a x ≡ s *₃₂ x
team_changed true s x = mul_neg_neg binary32 s x
team_changed false s x = refl

-- a magnitude
pub abs_changed : (a : Bool) (x : Float) → abs (signed a x) ≡ abs x
abs_changed true x = abs_neg x
abs_changed false x = refl

signed_nan : (a : Bool) → signed a nan ≡ nan
unfolding neg
signed_nan true = refl
signed_nan false = refl

-- the place k of a list of changed places
pub place_at_changed : (a : Bool) (l : List Float) (k : ℕ) → get_or (map (signed a) l) k nan ≡ signed a (get_or l k nan)
place_at_changed a l k = ap (get_or (map (signed a) l) k) (sym (signed_nan a)) ∙ get_or-map (signed a) l k nan

-- the distance from the centre
pub hypot_changed : (a b : Bool) (x y : Float) → hypot (signed a x) (signed b y) ≡ hypot x y
hypot_changed a b x y = hypot_by_abs (signed a x) x (signed b y) y (abs_changed a x) (abs_changed b y)

-- how far two values lie apart
pub abs_sub_changed : (a : Bool) (x y : Float) → abs (signed a x -₃₂ signed a y) ≡ abs (x -₃₂ y)
abs_sub_changed true x y = abs_sub_turned binary32 x y
abs_sub_changed false x y = refl

-- the distance of two points
pub distance_changed : (a b : Bool) (x y u v : Float) → hypot (signed a x -₃₂ signed a u) (signed b y -₃₂ signed b v) ≡ hypot (x -₃₂ u) (y -₃₂ v)
distance_changed a b x y u v = hypot_by_abs (signed a x -₃₂ signed a u) (x -₃₂ u) (signed b y -₃₂ signed b v) (y -₃₂ v) (abs_sub_changed a x u) (abs_sub_changed b y v)

-- a team's sign
pub sign_changed : (a : Bool) (side : Side) (sides : SideMapping) → side_to_sign side (changed_ends a sides) ≡ signed a (side_to_sign side sides)
sign_changed false side sides = refl
sign_changed true Home HomeDefendsLeftGoal = sym (neg_neg one)
sign_changed true Home HomeDefendsRightGoal = refl
sign_changed true Away HomeDefendsLeftGoal = refl
sign_changed true Away HomeDefendsRightGoal = sym (neg_neg one)

-- ---- margins
-- the two operands of min change places
strip_changed : (a b : Bool) (w : Float) (p : PlayerPose) → strip_margin w (changed_pose a b p) ≡ strip_margin w p
strip_changed a false w p = refl
strip_changed a true w p =
    let e = w *₃₂ half +₃₂ p.radius in
    ap₂ minimum_number (sub_neg binary32 e p.y) (sym (sub_is_add binary32 e p.y))
    ∙ min_comm_f binary32 (e +₃₂ p.y) (e -₃₂ p.y) (add-fits binary32 e p.y) (sub-fits binary32 e p.y)

pub margins_changed : (a b : Bool) (p : PlayerPose) (f : FieldDimensions) (s : Float) → margins_of (changed_pose a b p) f (signed a s) ≡ margins_of p f s
unfolding margins_of
margins_changed a b p f s =
    cc (team_changed a s p.x, strip_changed a b f.goal_area_width p, strip_changed a b f.penalty_area_width p)

pub seen_margins_changed : (a b : Bool) (p : Option PlayerPose) (f : FieldDimensions) (s : Float) → seen_margins (changed_maybe_pose a b p) f (signed a s) ≡ seen_margins p f s
seen_margins_changed a b None f s = refl
seen_margins_changed a b (Some p) f s = ap Some (margins_changed a b p f s)

-- the player at a place; past the last one it is `nobody`, who does not change
pub player_at_changed : (a b : Bool) (t : Team) (i : ℕ) → player_at (changed_team a b t) i ≡ changed_player a b (player_at t i)
player_at_changed a b t i = get_or-map (changed_player a b) t.players i nobody

-- the player with a number
pub numbered_changed : (a b : Bool) (t : Team) (number : ℕ) → player_numbered (changed_team a b t) number ≡ changed_player a b (player_numbered t number)
numbered_changed a b t zero = refl
numbered_changed a b t (suc i) = player_at_changed a b t i

pub compute_margins_changed : (a b : Bool) (t : Team) (f : FieldDimensions) (s : Float) → compute_margins (changed_team a b t) f (signed a s) ≡ compute_margins t f s
unfolding compute_margins
compute_margins_changed a b t f s = table_same 20 (λ i. player_margins (player_at (changed_team a b t) i) f (signed a s)) (λ i. player_margins (player_at t i) f s) (λ i h. same i)
  where
    same : (i : ℕ) → player_margins (player_at (changed_team a b t) i) f (signed a s) ≡ player_margins (player_at t i) f s
    same i =
        ap (λ (q : Player). player_margins q f (signed a s)) (player_at_changed a b t i) ∙ seen_margins_changed a b (player_at t i).pose f s

-- ---- where a player is
pub carpet_changed : (a b : Bool) (p : PlayerPose) (f : FieldDimensions) → carpet_excess (changed_pose a b p) f ≡ carpet_excess p f
carpet_changed a b p f = cc (abs_changed a p.x, abs_changed b p.y)

seen_leaving_changed : (a b : Bool) (p : Option PlayerPose) (f : FieldDimensions) (allowance : Float) → seen_leaving (changed_maybe_pose a b p) f allowance ≡ seen_leaving p f allowance
seen_leaving_changed a b None f allowance = refl
seen_leaving_changed a b (Some p) f allowance = cc (carpet_changed a b p f)

pub leaving_changed : (a b : Bool) (q : Player) (f : FieldDimensions) (allowance : Float) → is_leaving_the_field (changed_player a b q) f allowance ≡ is_leaving_the_field q f allowance
leaving_changed a b q f allowance = cc (seen_leaving_changed a b q.pose f allowance)

-- at the same x of its team
pub goal_line_changed : (a b : Bool) (x : Float) (p : PlayerPose) (f : FieldDimensions) → is_on_own_goal_line x (changed_pose a b p) f ≡ is_on_own_goal_line x p f
goal_line_changed a b x p f = cc (abs_changed b p.y)
