-- What holds of every decision's lists, kicking player and place, by which its lines are a sheet. Assumes nothing.
use mathlib.Core.Path.{◌≡◌, refl, sym, subst}
use mathlib.Core.Bool.{Bool, true, false, cond}
use mathlib.Core.List.{List, []}
use Prim.Native.Nat.{ℕ, suc, ◌+◌, ◌-◌, ◌≤◌}
use native.Mathlib.Omega.{arith}
use borrow.Author.Tests.{ltb-true}
use lib.Dec.{ltb}
use lib.Ieee.{Float}
use lib.ListN.{length, drop, replicate}
use lib.Seq.{take_at}
use Rattle.lists.specs.Gather.{flat_to, only_if}
use Rattle.lists.specs.Put.{fronted}
use Rattle.lists.specs.Table.{table}
use Rattle.game.specs.Game.{is_playing}
use Rattle.game.specs.Players.{player_at, listed, number_at, numbers_where, team_of}
use Rattle.game.specs.declared.Decision.{Decision}
use Rattle.game.specs.declared.FieldDimensions.{FieldDimensions}
use Rattle.game.specs.declared.Game.{Game}
use Rattle.game.specs.declared.KickingPlayer.{KickingPlayer}
use Rattle.game.specs.declared.Side.{Side}
use Rattle.game.specs.declared.Side.TheVariants.{Home, Away}
use Rattle.game.specs.declared.SideDecision.{SideDecision}
use Rattle.game.specs.declared.Situation.{Situation}
use Rattle.game.specs.declared.Team.{Team}
use Rattle.excess.specs.Excess.{inside, named, allowed, goal_area_excess}
use Rattle.excess.proofs.ExcessLaws.{excess_inside, excess_once}
use Rattle.kicker.specs.Kicker.{nearest, kicker_number, determine_kicking_player}
use Rattle.motion.specs.Motion.{has_moved, moved_players}
use Rattle.decision.specs.Decision.{is_excess_asked, empty_list, team_excess, kicker_numbered, kicker_if_any, kicking_player, is_leaving, leaving_players, team_decision, side_margins, side_decision, decision_of}
use Rattle.decision.proofs.Few.{moved_few, leaving_few, excess_few}
use Rattle.sheet.specs.Rows.{numbers_of}
use Rattle.sheet.proofs.Room.{Short}
use Rattle.places_hold.specs.Claims.{Placed}
use Rattle.reading.proofs.All.{All, no_more, all_table, Distinct, nothing, distinct_table, Chain, chain_only, chain_flat}
use Rattle.std.specs.Prelude.{Option, None, Some}
use Rattle.game.specs.declared.Margins.{Margins}

-- ---- what holds
-- a player's number
abbrev pub Numbered : ℕ → Type 0
Numbered n = (1 ≤ n) × (n ≤ 20)

-- players' numbers that strictly rise
abbrev pub Rising : List ℕ → Type 0
Rising ns = Chain (λ (n : ℕ). n) 1 1 21 ns

pub record OrderlySide (d : SideDecision) : Type 0 where
  pub short : Short d
  pub excess : All Numbered (numbers_of d.excess)
  pub excess_once : Distinct (λ (n : ℕ). n) (numbers_of d.excess)
  pub leaving : Rising (numbers_of d.leaving)
  pub moved : Rising (numbers_of d.moved)

pub data KickerFits : Option KickingPlayer → Type 0 where
  no_kicker : KickerFits None
  one_kicker : {side : Side} {n : ℕ} → Numbered n → KickerFits (Some (record { side = side; number = n }))

pub record Orderly (d : Decision) : Type 0 where
  pub home : OrderlySide d.home
  pub away : OrderlySide d.away
  pub kicker : KickerFits d.kicker
  pub place : Placed d.place

-- ---- lists
-- a counted array holds the numbers that it was made of
numbers_listed : (l : List ℕ) → numbers_of (listed l) ≡ l
unfolding listed fronted
numbers_listed l = take_at l (drop (length l) (replicate 20 0)) (length l) refl

where_rising : (b : ℕ → Bool) → Rising (numbers_of (numbers_where b))
unfolding numbers_where
where_rising b =
    subst Rising (sym (numbers_listed (flat_to 20 (λ i. only_if (b i) (number_at i)))))
    (chain_flat 20 (λ i. only_if (b i) (number_at i)) suc (λ i l. chain_only (b i) (number_at i) {lo = suc i} {hi = suc (suc i)} (omega arith) (omega arith)))

leaving_rising : (t : Team) (f : FieldDimensions) → Rising (numbers_of (leaving_players t f))
unfolding leaving_players
leaving_rising t f = where_rising (λ i. is_leaving (player_at t i) f)

moved_rising : (t : Team) → Rising (numbers_of (moved_players t))
unfolding moved_players
moved_rising t = where_rising (λ i. has_moved (player_at t i))

-- ---- the excess
-- players' numbers, none of them twice
abbrev Apart : List ℕ → Type 0
Apart ns = All Numbered ns × Distinct (λ (n : ℕ). n) ns

area_apart : (t : Team) (m : List (Option Margins)) (prefer : Bool) → Apart (numbers_of (goal_area_excess t m prefer))
unfolding goal_area_excess
area_apart t m prefer =
    subst Apart (sym (numbers_listed (table (inside t m - allowed) (λ k. named t m prefer k + 1)))) (
      all_table (inside t m - allowed) (λ k. named t m prefer k + 1) (λ k h. let l = (excess_inside t m prefer k h).0 in (omega arith, omega arith)),
      distinct_table (inside t m - allowed) (λ k. named t m prefer k + 1) (λ j k g h e. excess_once t m prefer j k g h (omega (arith, e))),
    )

excess_apart : (g : Game) (t : Team) (m : List (Option Margins)) → Apart (numbers_of (team_excess g t m))
unfolding team_excess empty_list
excess_apart g t m = go (is_excess_asked g)
  where
    go : (asked : Bool) → Apart (numbers_of (cond asked (goal_area_excess t m (is_playing g.state)) empty_list))
    go true = area_apart t m (is_playing g.state)
    go false = subst Apart (sym (numbers_listed [])) (no_more, nothing)

-- ---- a side
side_orderly : (s : Situation) (side : Side) → OrderlySide (side_decision s side)
unfolding side_decision team_decision
side_orderly s side =
    let t = team_of s side in
    let m = side_margins s side in
    record {
      short = record { excess = excess_few s.game t m; leaving = leaving_few t s.field; moved = moved_few t };
      excess = (excess_apart s.game t m).0;
      excess_once = (excess_apart s.game t m).1;
      leaving = leaving_rising t s.field;
      moved = moved_rising t;
    }

-- ---- the kicking player
number_fits_holds : (side : Side) (i : ℕ) → KickerFits (kicker_numbered side (kicker_number i))
number_fits_holds side i = go (ltb i 20) refl
  where
    go : (b : Bool) → ltb i 20 ≡ b → KickerFits (kicker_numbered side (cond b (Some (number_at i)) None))
    go true e = let l = ltb-true i 20 e in one_kicker {n = number_at i} (omega arith, omega arith)
    go false e = no_kicker

kicker_fits : (m : Option Side) (g : Game) (home away : Team) (f : FieldDimensions) (hm am : List (Option Margins)) → KickerFits (kicker_if_any m g home away f hm am)
unfolding determine_kicking_player
kicker_fits None g home away f hm am = no_kicker
kicker_fits (Some Home) g home away f hm am = number_fits_holds Home (nearest g.set_play f _ home hm)
kicker_fits (Some Away) g home away f hm am = number_fits_holds Away (nearest g.set_play f _ away am)

-- ---- the decision
pub orderly : (s : Situation) (xs ys : List Float) → Placed (decision_of s xs ys).place → Orderly (decision_of s xs ys)
unfolding decision_of kicking_player
orderly s xs ys p =
    record {
      home = side_orderly s Home;
      away = side_orderly s Away;
      kicker = kicker_fits s.game.kicking_side s.game s.home s.away s.field (side_margins s Home) (side_margins s Away);
      place = p;
    }
