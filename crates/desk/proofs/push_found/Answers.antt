-- Nothing is put where there is no item.
use Rattle.text.proofs.Pushed.{pushed_none}
use Rattle.desk.proofs.push_found.Goals as goal

pub returns-in-Err : goal.returns-in-Err
returns-in-Err c = rw c.in-Err.is (pushed_none 16500 c.args.lines.now c.requires)

pub returns-in-Ok-None : goal.returns-in-Ok-None
returns-in-Ok-None c = rw (c.in-Ok-None.is, rw c.in-Ok-None.is at c.in-Ok-None.field-0-is) (pushed_none 16500 c.args.lines.now c.requires)
