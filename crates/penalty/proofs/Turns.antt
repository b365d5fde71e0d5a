-- One try of the walk over the candidates. Assumes nothing.
use mathlib.Core.Path.{◌≡◌, refl, sym, ap, ◌∙◌}
use mathlib.Core.Bool.{Bool, true, false, cond}
use mathlib.Core.List.{List}
use Prim.Native.Nat.{ℕ}
use lib.Ieee.{Float}
use Rattle.tries.specs.Tries.{candidate_at, is_candidate}
use Rattle.clearance.specs.Clearance.{Spot}
use Rattle.penalty.specs.declared.Choice.{Choice}
use Rattle.penalty.specs.declared.Search.{Search}
use Rattle.penalty.specs.Walk.{considered, consider, clear_at, after_try}

module _ (s : Search) (spots : List Spot) (j : ℕ) (choice : Choice) (x : Float) (b : Bool) (e : x ≡ candidate_at s.first s.distance j) (t : b ≡ is_candidate s.min s.max j x) where
  test : is_candidate s.min s.max j (candidate_at s.first s.distance j) ≡ b
  test = sym (t ∙ ap (is_candidate s.min s.max j) e)

  -- a candidate is considered, with its clearance
  pub try_taken : (clear : Float) (r : Choice) → b ≡ true → clear ≡ clear_at s spots x → r ≡ considered choice s.distance x clear → r ≡ after_try s spots j choice
  unfolding after_try
  try_taken clear r h m q =
      q
      ∙ ap (considered choice s.distance x) m
      ∙ ap (λ (z : Float). consider s spots z choice) e
      ∙ ap (λ (z : Bool). cond z (consider s spots (candidate_at s.first s.distance j) choice) choice) (sym (test ∙ h))

  -- a place that is none changes nothing
  pub try_left : b ≡ false → choice ≡ after_try s spots j choice
  unfolding after_try
  try_left h = ap (λ (z : Bool). cond z (consider s spots (candidate_at s.first s.distance j) choice) choice) (sym (test ∙ h))

-- once the distance is reached the choice stays
pub reached_stays : (s : Search) (spots : List Spot) (j : ℕ) (choice : Choice) → choice.reached ≡ true → after_try s spots j choice ≡ choice
unfolding after_try
reached_stays s spots j choice h = go (is_candidate s.min s.max j x)
  where
    x : Float
    x = candidate_at s.first s.distance j

    stays : considered choice s.distance x (clear_at s spots x) ≡ choice
    stays = unfold considered in simp h

    go : (b : Bool) → cond b (consider s spots x choice) choice ≡ choice
    go true = stays
    go false = refl
