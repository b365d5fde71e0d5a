use Rattle.std.proofs.Common.{sym, ◌∙◌}
use Rattle.items.proofs.View.{item_number}
use Rattle.reading.proofs.fits_after.Goals as goal

pub linked-requires : goal.linked-requires
linked-requires c = item_number _ (sym c.is_item.ensures ∙ c.if-not-is_item.false)
