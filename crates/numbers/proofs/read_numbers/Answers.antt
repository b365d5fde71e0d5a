use Rattle.std.proofs.Common.{rules, get_or, arith}
use Rattle.numbers.specs.Walk.{kind_of}
use Rattle.numbers.proofs.Bounds.{begun_on, value_on}
use Rattle.numbers.proofs.Continued.{start_on, turn_on, all_read_holds}
use Rattle.numbers.proofs.read_numbers.Goals as goal

pub loop-b-init : goal.loop-b-init
loop-b-init c = (search rules, search rules, start_on _ _)

pub loop-b-preserved : goal.loop-b-preserved
loop-b-preserved c =
    let told = c.after_byte-progress.ensures in (
      rw told.value (omega (arith, begun_on (kind_of (get_or c.args.text.now c.loop-b.b-index 0)) c.loop-b.progress)),
      rw told.value (value_on _ c.loop-b.progress),
      turn_on c.args.text.now c.loop-b.numbers c.after_byte-progress.new.numbers c.loop-b.progress c.after_byte-progress.result c.loop-b.b-index _ c.loop-b-test.true c.loop-b.invariant.2 told.value
          told.numbers_after,
    )

pub returns : goal.returns
returns c =
    let told = c.end_field.ensures in
    let all =
    all_read_holds c.args.text.now c.args.numbers.now c.loop-b.numbers c.end_field.new.numbers c.loop-b.progress c.end_field.result c.loop-b.b-index c.loop-b-test.false c.loop-b.invariant.2
    told.value told.numbers_after
    in
    record { value = all.0; numbers_after = all.1 }
