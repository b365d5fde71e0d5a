-- What is refused does not depend on the signs of x and y: a situation turned half round, or mirrored in y, is refused as it was. Assumes nothing.
use mathlib.Core.Path.{◌≡◌, refl, sym, ap, ap₂, ◌∙◌}
use mathlib.Core.Bool.{Bool, true, false, ◌&&◌}
use mathlib.Core.List.{List, map}
use Prim.Native.Nat.{ℕ}
use lib.Dec.{leb, eqb}
use lib.ListN.{length, get_or}
use lib.Ieee.{Float, nan, neg, le}
use Rattle.lists.specs.Every.{every_to}
use Rattle.lists.proofs.Every.{every_same}
use Rattle.lists.proofs.Lengths.{length_map}
use Rattle.floats.specs.Arithmetic.{sixty_four}
use Rattle.floats.proofs.Laws.Signs.{neg_neg, le_neg}
use Rattle.game.specs.Players.{player_at}
use Rattle.game.specs.declared.Ball.{Ball}
use Rattle.game.specs.declared.Player.{Player}
use Rattle.game.specs.declared.PlayerPose.{PlayerPose}
use Rattle.game.specs.declared.Team.{Team}
use Rattle.geometry.specs.Turned.{signed, changed_pose, changed_maybe_pose, changed_player, changed_team, changed_ball}
use Rattle.geometry.proofs.Turned.{player_at_changed, place_at_changed}
use Rattle.lists.proofs.Bools.{and_swap}
use Rattle.refusals.specs.Refusals.{is_coordinate, is_radius, pose_fits, maybe_pose_fits, player_fits, team_fits, places_fit, lists_fit, poses_fit, ball_fits}
use Rattle.std.specs.Prelude.{Option, None, Some}

-- a coordinate of either sign
pub coordinate_changed : (a : Bool) (x : Float) → is_coordinate (signed a x) ≡ is_coordinate x
coordinate_changed true x =
    ap₂ (λ (p q : Bool). p && q) (le_neg x sixty_four) (ap (le (neg x)) (sym (neg_neg sixty_four)) ∙ le_neg (neg sixty_four) x) ∙ and_swap (le x sixty_four) (le (neg sixty_four) x)
coordinate_changed false x = refl

pose_fits_changed : (a b : Bool) (p : PlayerPose) → pose_fits (changed_pose a b p) ≡ pose_fits p
unfolding pose_fits
pose_fits_changed a b p = ap₂ (λ (u v : Bool). u && v && is_coordinate p.theta && is_radius p.radius) (coordinate_changed a p.x) (coordinate_changed b p.y)

maybe_pose_fits_changed : (a b : Bool) (p : Option PlayerPose) → maybe_pose_fits (changed_maybe_pose a b p) ≡ maybe_pose_fits p
maybe_pose_fits_changed a b None = refl
maybe_pose_fits_changed a b (Some p) = pose_fits_changed a b p

player_fits_changed : (a b : Bool) (q : Player) → player_fits (changed_player a b q) ≡ player_fits q
player_fits_changed a b q = ap₂ (λ (u v : Bool). u && v && is_coordinate q.allowance) (maybe_pose_fits_changed a b q.pose) (maybe_pose_fits_changed a b q.reference)

pub team_fits_changed : (a b : Bool) (t : Team) → team_fits (changed_team a b t) ≡ team_fits t
unfolding team_fits
team_fits_changed a b t = every_same 20 (λ i. player_fits (player_at (changed_team a b t) i)) (λ i. player_fits (player_at t i)) (λ i h. ap player_fits (player_at_changed a b t i) ∙ player_fits_changed a b (player_at t i))

pub places_fit_changed : (a : Bool) (l : List Float) → places_fit (map (signed a) l) ≡ places_fit l
unfolding places_fit
places_fit_changed a l =
    ap (λ (n : ℕ). every_to n (λ i. is_coordinate (get_or (map (signed a) l) i nan))) (length_map (signed a) l)
    ∙ every_same (length l) (λ i. is_coordinate (get_or (map (signed a) l) i nan)) (λ i. is_coordinate (get_or l i nan)) (λ i h. ap is_coordinate (place_at_changed a l i) ∙ coordinate_changed a (get_or l i nan))

pub lists_fit_changed : (a b : Bool) (xs ys : List Float) → lists_fit (map (signed a) xs) (map (signed b) ys) ≡ lists_fit xs ys
unfolding lists_fit
lists_fit_changed a b xs ys =
    ap₂ (λ (n m : ℕ). eqb n m && leb n 4096 && places_fit (map (signed a) xs) && places_fit (map (signed b) ys)) (length_map (signed a) xs) (length_map (signed b) ys)
    ∙ ap₂ (λ (u v : Bool). eqb (length xs) (length ys) && leb (length xs) 4096 && u && v) (places_fit_changed a xs) (places_fit_changed b ys)

pub poses_fit_changed : (a b : Bool) (home away : Team) (xs ys : List Float) → poses_fit (changed_team a b home) (changed_team a b away) (map (signed a) xs) (map (signed b) ys) ≡ poses_fit home away xs ys
unfolding poses_fit
poses_fit_changed a b home away xs ys =
    ap₂ (λ (u v : Bool). u && v && lists_fit (map (signed a) xs) (map (signed b) ys)) (team_fits_changed a b home) (team_fits_changed a b away)
    ∙ ap (λ (u : Bool). team_fits home && team_fits away && u) (lists_fit_changed a b xs ys)

pub ball_fits_changed : (a b : Bool) (o : Ball) → ball_fits (changed_ball a b o) ≡ ball_fits o
ball_fits_changed a b o = ap₂ (λ (u v : Bool). u && v && is_coordinate o.z) (coordinate_changed a o.x) (coordinate_changed b o.y)
