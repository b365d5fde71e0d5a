-- The lines, marks and edges that places are found by are finite, with sizes that are accepted. Assumes nothing.
use mathlib.Core.Path.{◌≡◌, sym, ap, ◌∙◌}
use mathlib.Core.Bool.{true}
use lib.Dec.{T}
use lib.Ieee.{Float, binary32, neg, add, mul, le, fits, of_bits}
use lib.Ieee.Fits.{neg-fits, add-fits, mul-fits}
use Rattle.floats.specs.Arithmetic.{◌+₃₂◌, ◌-₃₂◌, ◌*₃₂◌, zero32, half, sixty_four}
use Rattle.floats.specs.Leaves.{negative}
use Rattle.floats.specs.Values.{Finite}
use Rattle.floats.proofs.Laws.Constants.{zero_finite, sixty_four_finite}
use Rattle.floats.proofs.Laws.Signs.{neg_neg, le_neg}
use Rattle.game.specs.declared.FieldDimensions.{FieldDimensions}
use Rattle.game.specs.declared.PlayerPose.{PlayerPose}
use Rattle.geometry.specs.Geometry.{mark_x}
use Rattle.places.specs.Places.{goal_line_x, touchline_y, area_line_x, area_line_y, post_y}
use Rattle.penalty.specs.Penalty.{lowest_of, edge_of}
use Rattle.refusals.specs.Refusals.{is_size}
use Rattle.refusals.proofs.Accepted.{Ranges}
use Rattle.places_hold.specs.Claims.{SizesFit}
use Rattle.places_hold.proofs.Under.{Under, under_finite, half_under, add_under, sub_under, size_under, length_under, line_under, max_finite, sign_finite}

-- ---- bounds: 32, 96, 64, 128 and 160, as the sums that they come from
abbrev thirty_two : Float
thirty_two = sixty_four *₃₂ half

half_finite : Finite binary32 thirty_two
half_finite = record { fit = mul-fits binary32 sixty_four half; finite = unfold mul of_bits in tt }

sum_finite : Finite binary32 (thirty_two +₃₂ sixty_four)
sum_finite = record { fit = add-fits binary32 thirty_two sixty_four; finite = unfold add mul of_bits in tt }

halves_finite : Finite binary32 (thirty_two +₃₂ thirty_two)
halves_finite = record { fit = add-fits binary32 thirty_two thirty_two; finite = unfold add mul of_bits in tt }

area_finite : Finite binary32 (thirty_two +₃₂ sixty_four +₃₂ thirty_two)
area_finite = record { fit = add-fits binary32 (thirty_two +₃₂ sixty_four) thirty_two; finite = unfold add mul of_bits in tt }

carpet_finite : Finite binary32 (thirty_two +₃₂ sixty_four +₃₂ sixty_four)
carpet_finite = record { fit = add-fits binary32 (thirty_two +₃₂ sixty_four) sixty_four; finite = unfold add mul of_bits in tt }

neg_under : (c v : Float) → Under c v → Under c (neg v)
neg_under c v u = record { fit = neg-fits binary32 v u.fit; lowest = le_neg v c ∙ u.highest; highest = ap (le (neg v)) (sym (neg_neg c)) ∙ le_neg (neg c) v ∙ u.lowest }

-- ---- with sizes that are accepted
module _ (f : FieldDimensions) (fit : SizesFit f) (r : Ranges f) where
  halved : (v : Float) → Under sixty_four v → Under thirty_two (v *₃₂ half)
  halved v u = half_under sixty_four sixty_four_finite v u

  long : Under sixty_four f.length
  long = length_under f.length fit.length r.length_range

  half_line : Under thirty_two (f.line_width *₃₂ half)
  half_line = halved f.line_width (line_under f.line_width fit.line r.line_range)

  half_width : Under thirty_two (f.width *₃₂ half)
  half_width = halved f.width (length_under f.width fit.width r.width_range)

  -- half of a size less half a line
  inner : (v : Float) → Under sixty_four v → Finite binary32 (v *₃₂ half -₃₂ f.line_width *₃₂ half)
  inner v u = under_finite (thirty_two +₃₂ thirty_two) halves_finite (v *₃₂ half -₃₂ f.line_width *₃₂ half) (sub_under thirty_two thirty_two half_finite half_finite (v *₃₂ half) (f.line_width *₃₂ half) (halved v u) half_line)

  pub goal_line_finite : Finite binary32 (goal_line_x f)
  goal_line_finite = inner f.length long

  pub touchline_finite : Finite binary32 (touchline_y f)
  touchline_finite = inner f.width (length_under f.width fit.width r.width_range)

  pub area_y_finite : (w : Float) → T (fits binary32 w) → is_size w ≡ true → Finite binary32 (area_line_y f w)
  area_y_finite w q e = inner w (size_under w q e)

  -- half the length less a size
  less : (v : Float) → Under sixty_four v → Under (thirty_two +₃₂ sixty_four) (f.length *₃₂ half -₃₂ v)
  less v u = sub_under thirty_two sixty_four half_finite sixty_four_finite (f.length *₃₂ half) v (halved f.length long) u

  pub area_x_finite : (l : Float) → T (fits binary32 l) → is_size l ≡ true → Finite binary32 (area_line_x f l)
  area_x_finite l q e =
      under_finite (thirty_two +₃₂ sixty_four +₃₂ thirty_two) area_finite (area_line_x f l)
      (add_under (thirty_two +₃₂ sixty_four) thirty_two sum_finite half_finite (f.length *₃₂ half -₃₂ l) (f.line_width *₃₂ half) (less l (size_under l q e)) half_line)

  pub mark_finite : Finite binary32 (mark_x f)
  mark_finite = under_finite (thirty_two +₃₂ sixty_four) sum_finite (mark_x f) (less f.penalty_mark_distance (size_under f.penalty_mark_distance fit.mark r.mark_range))

  pub ball_finite : Finite binary32 f.ball_radius
  ball_finite = under_finite sixty_four sixty_four_finite f.ball_radius (size_under f.ball_radius fit.ball_radius r.radius_range)

  -- for a player with this radius
  module _ (p : PlayerPose) (u : Under sixty_four p.radius) where
    pub post_finite : Finite binary32 (post_y f p)
    post_finite =
        max_finite (f.goal_width *₃₂ half -₃₂ p.radius) zero32
        (under_finite (thirty_two +₃₂ sixty_four) sum_finite (f.goal_width *₃₂ half -₃₂ p.radius)
        (sub_under thirty_two sixty_four half_finite sixty_four_finite (f.goal_width *₃₂ half) p.radius (halved f.goal_width (size_under f.goal_width fit.goal_width r.goal_range)) u))
        zero_finite

    pub edge_finite : Finite binary32 (edge_of f p)
    edge_finite =
        sign_finite (negative p.y) (f.width *₃₂ half +₃₂ f.border_strip_width -₃₂ p.radius)
        (under_finite (thirty_two +₃₂ sixty_four +₃₂ sixty_four) carpet_finite (f.width *₃₂ half +₃₂ f.border_strip_width -₃₂ p.radius)
        (sub_under (thirty_two +₃₂ sixty_four) sixty_four sum_finite sixty_four_finite (f.width *₃₂ half +₃₂ f.border_strip_width) p.radius
        (add_under thirty_two sixty_four half_finite sixty_four_finite (f.width *₃₂ half) f.border_strip_width half_width (size_under f.border_strip_width fit.border r.border_range)) u))

    pub lowest_finite : Finite binary32 (lowest_of f p.radius)
    lowest_finite =
        under_finite (thirty_two +₃₂ sixty_four) sum_finite (lowest_of f p.radius)
        (add_under thirty_two sixty_four half_finite sixty_four_finite (neg f.length *₃₂ half) p.radius (halved (neg f.length) (neg_under sixty_four f.length long)) u)
