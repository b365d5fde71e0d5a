-- The places are the patterns' floats.
use Rattle.std.proofs.Common.{◌≡◌, ◌+◌, ◌-◌, arith, sym}
use Rattle.floats.specs.Arithmetic.{zero32}
use Rattle.std.proofs.Math.ListN.{replicate}
use Rattle.std.proofs.Math.Seq.{length-take-le}
use Rattle.columns.specs.Layout.{word_count}
use Rattle.input.specs.Input.{most_places, first_x, first_y}
use Rattle.desk.specs.Desk.{numbers_printed}
use Rattle.desk.proofs.Judged.{places_told, prints_as, printed_same}
use Rattle.desk.proofs.judge_numbers.Goals as goal

pub slice_bounds-situation_of-end : goal.slice_bounds-situation_of-end
slice_bounds-situation_of-end c = sym (length-take-le word_count c.args.numbers.now (omega (arith, c.requires.2)))

pub returns : goal.returns
unfolding numbers_printed
returns c =
    let a = c.args in
    let ns = a.numbers.now in
    let same : first_x + a.nx - first_x ≡ a.nx = omega arith in
    let same_y : first_y + a.nx + a.ny - (first_y + a.nx) ≡ a.ny = omega arith in
    let xs = places_told ns first_x a.nx (first_x + a.nx - first_x) (replicate most_places zero32) _ same c.fill_places.ensures c.requires.0 (omega (arith, c.requires.2)) in
    let ys = places_told ns (first_y + a.nx) a.ny (first_y + a.nx + a.ny - (first_y + a.nx)) (replicate most_places zero32) _ same_y c.fill_places-2.ensures c.requires.1 (omega (arith, c.requires.2)) in
    let p = prints_as _ _ a.out.now _ c.judge_situation.result (printed_same a.wanted _ _ _ _ _ _ _ c.situation_of-s.ensures xs ys) (c.judge_situation.ensures.value, c.judge_situation.ensures.out_after) in
    record { value = p.0; out_after = p.1 }
