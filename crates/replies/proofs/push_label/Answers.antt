-- Whose the word is, and its name after it; the two tables are those of the names by evaluation.
use Rattle.std.proofs.Common.{ap, ◌∙◌}
use Rattle.lists.specs.Gather.{flat_to}
use Rattle.text.specs.Pushed.{pushed}
use Rattle.text.proofs.Pushed.{next_piece}
use Rattle.replies.specs.Names.{names}
use Rattle.replies.specs.Texts.{owners_of, places_of, owners, called}
use Rattle.replies.proofs.Texts.{label_told}
use Rattle.replies.proofs.push_label.Goals as goal

pub returns : goal.returns
unfolding names owners owners_of called places_of flat_to
returns c = next_piece 256 _ _ _ c.push_text.ensures c.push_text-2.ensures ∙ ap (pushed 256 c.args.line.now) (label_told c.args.i c.requires)
