use Rattle.std.proofs.Common.{sym, ◌∙◌}
use Rattle.reading.proofs.Walked.{fits_number}
use Rattle.reading.proofs.after_row.Goals as goal

pub seen_after-requires : goal.seen_after-requires
seen_after-requires c = fits_number _ _ _ (sym c.fits_after.ensures ∙ c.if-fits_after.true)
