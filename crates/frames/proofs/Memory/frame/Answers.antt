use Rattle.game.specs.declared.Side.TheVariants.{Home, Away}
use Rattle.frames.proofs.Margins.{seen_margins, judged_seen_margins}
use Rattle.frames.proofs.Memory.frame.Goals as goal

pub invariant_of-measured : goal.invariant_of-measured
invariant_of-measured c = record { measured = (seen_margins c.args.s Home _ c.side_seen-home_seen.ensures, seen_margins c.args.s Away _ c.side_seen-away_seen.ensures) }

pub invariant_of-measured_again : goal.invariant_of-measured_again
invariant_of-measured_again c =
    record {
      measured = (
        judged_seen_margins c.args.s _ _ Home _ _ c.side_seen-home_seen.ensures c.judged_frame-judged.ensures,
        judged_seen_margins c.args.s _ _ Away _ _ c.side_seen-away_seen.ensures c.judged_frame-judged.ensures,
      );
    }
