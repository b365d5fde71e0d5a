use Rattle.std.proofs.Common.{ℕ, ◌≤◌, List, length, refl, sym, ap, ap₂, subst, ◌∙◌}
use lib.Ieee.{Float, le}
use Rattle.lists.specs.Gather.{flat_to}
use Rattle.lists.specs.Put.{count_if, put_if}
use Rattle.lists.proofs.Put.{fronted_none}
use Rattle.floats.specs.Arithmetic.{◌+₃₂◌, ◌-₃₂◌, ◌*₃₂◌}
use Rattle.spacing.specs.Spacing.{places_at}
use Rattle.candidates.proofs.CandidatesFill.{rooms, room_after, turn_adds, turn_room, count_two, put_two}
use Rattle.candidates.proofs.fill_turns.Goals as goal

pub loop-k-preserved : goal.loop-k-preserved
loop-k-preserved c =
    let two = c.put_if-n in
    let one = c.put_if-with_lower in
    let at = c.loop-k in
    let a = c.args in
    let s = a.span in
    let f = places_at a.first s.min s.max s.step in
    let lower = a.first -₃₂ c.from_count.result *₃₂ s.step in
    let upper = a.first +₃₂ c.from_count.result *₃₂ s.step in
    let adds = turn_adds a.first s.min s.max s.step c.from_count.result at.k c.from_count.ensures in
    let room = turn_room f (le s.min lower) (le upper s.max) lower upper at.k at.n adds at.invariant.2 a.turns (length a.list.now) c.loop-k-test.true c.requires in (
      two.auto.list ∙ one.auto.list ∙ at.invariant.0,
      put_two f (le s.min lower) (le upper s.max) lower upper at.k at.n adds at.invariant.2 a.list.now at.list two.new.list room at.invariant.1
          (two.ensures.list_after ∙ ap₂ (λ (l : List Float) (k : ℕ). put_if (le upper s.max) l k upper) one.ensures.list_after one.ensures.value),
      two.ensures.value ∙ ap (count_if (le upper s.max)) one.ensures.value ∙ count_two f (le s.min lower) (le upper s.max) lower upper at.k at.n adds at.invariant.2,
    )

pub loop-k-init : goal.loop-k-init
unfolding flat_to
loop-k-init c = let a = c.args in (refl, fronted_none (places_at a.first a.span.min a.span.max a.span.step) _, refl)

pub put_if-with_lower-requires : goal.put_if-with_lower-requires
put_if-with_lower-requires c =
    let at = c.loop-k in
    let a = c.args in
    let s = a.span in
    let lower = a.first -₃₂ c.from_count.result *₃₂ s.step in
    let upper = a.first +₃₂ c.from_count.result *₃₂ s.step in
    let adds = turn_adds a.first s.min s.max s.step c.from_count.result at.k c.from_count.ensures in
    let r = rooms (le s.min lower) (le upper s.max) at.n (length at.list)
    (turn_room (places_at a.first s.min s.max s.step) (le s.min lower) (le upper s.max) lower upper at.k at.n adds at.invariant.2
    a.turns (length at.list) c.loop-k-test.true
    (subst (λ (m : ℕ). length (flat_to a.turns (places_at a.first s.min s.max s.step)) ≤ m) (sym at.invariant.0) c.requires)) in
    record { n_in_bounds = r.0; n_in_bounds_2 = r.1 }

pub put_if-n-requires : goal.put_if-n-requires
put_if-n-requires c =
    let one = c.put_if-with_lower in
    let at = c.loop-k in
    let a = c.args in
    let s = a.span in
    let lower = a.first -₃₂ c.from_count.result *₃₂ s.step in
    let upper = a.first +₃₂ c.from_count.result *₃₂ s.step in
    let adds = turn_adds a.first s.min s.max s.step c.from_count.result at.k c.from_count.ensures in
    let r = room_after (le upper s.max) (count_if (le s.min lower) at.n) one.result (length at.list) (length one.new.list) one.ensures.value one.auto.list
    (turn_room (places_at a.first s.min s.max s.step) (le s.min lower) (le upper s.max) lower upper at.k at.n adds at.invariant.2
    a.turns (length at.list) c.loop-k-test.true
    (subst (λ (m : ℕ). length (flat_to a.turns (places_at a.first s.min s.max s.step)) ≤ m) (sym at.invariant.0) c.requires)) in
    record { n_in_bounds = r.0; n_in_bounds_2 = r.1 }
