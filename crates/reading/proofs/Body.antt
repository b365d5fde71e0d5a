-- The clauses of the lines after the header, one by one. Assumes nothing.
use mathlib.Core.Path.{◌≡◌}
use mathlib.Core.Bool.{true}
use mathlib.Core.List.{List}
use Rattle.lists.proofs.Bools.{both_true}
use Rattle.lines.specs.declared.Row.{Row}
use Rattle.items.specs.Items.{is_item}
use Rattle.reading.specs.Rules.{every, in_a_row, in_order, players_rise, ranked, named_once, at_most_one, as_many, same_who, placing, one_place, is_body}

pub record Body (rs : List Row) : Type 0 where
  pub items : every is_item rs ≡ true
  pub order : in_order rs ≡ true
  pub verdicts : players_rise 1 rs ≡ true
  pub home_ranks : ranked 0 rs ≡ true
  pub away_ranks : ranked 1 rs ≡ true
  pub home_once : named_once 0 rs ≡ true
  pub away_once : named_once 1 rs ≡ true
  pub one_kicker : at_most_one 3 rs ≡ true
  pub leaving : players_rise 4 rs ≡ true
  pub moved : players_rise 5 rs ≡ true
  pub one_judgment : at_most_one 6 rs ≡ true
  pub place : one_place rs ≡ true
  pub one_x : at_most_one 7 rs ≡ true
  pub y_too : as_many 7 8 rs ≡ true
  pub third_too : as_many 7 9 rs ≡ true
  pub same_who_holds : in_a_row same_who (placing rs) ≡ true

pub body_view : (rs : List Row) → is_body rs ≡ true → Body rs
unfolding is_body
body_view rs e =
    let a = both_true (every is_item rs) _ e in
    let b = both_true (in_order rs) _ a.1 in
    let c = both_true (players_rise 1 rs) _ b.1 in
    let d = both_true (ranked 0 rs) _ c.1 in
    let f = both_true (ranked 1 rs) _ d.1 in
    let g = both_true (named_once 0 rs) _ f.1 in
    let h = both_true (named_once 1 rs) _ g.1 in
    let i = both_true (at_most_one 3 rs) _ h.1 in
    let j = both_true (players_rise 4 rs) _ i.1 in
    let k = both_true (players_rise 5 rs) _ j.1 in
    let l = both_true (at_most_one 6 rs) (one_place rs) k.1 in
    let m = both_true (at_most_one 7 rs) _ l.1 in
    let n = both_true (as_many 7 8 rs) _ m.1 in
    let o = both_true (as_many 7 9 rs) (in_a_row same_who (placing rs)) n.1 in
    record {
      items = a.0;
      order = b.0;
      verdicts = c.0;
      home_ranks = d.0;
      away_ranks = f.0;
      home_once = g.0;
      away_once = h.0;
      one_kicker = i.0;
      leaving = j.0;
      moved = k.0;
      one_judgment = l.0;
      place = l.1;
      one_x = m.0;
      y_too = n.0;
      third_too = o.0;
      same_who_holds = o.1;
    }
