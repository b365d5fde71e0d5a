use Rattle.item_lines.proofs.Values.{sign_none, sign_minus}
use Rattle.item_lines.proofs.sign.Goals as goal

pub returns-then-p-lt2147483648 : goal.returns-then-p-lt2147483648
returns-then-p-lt2147483648 c = sign_none c.args.p c.if-p-lt2147483648.true

pub returns-else-p-lt2147483648 : goal.returns-else-p-lt2147483648
returns-else-p-lt2147483648 c = sign_minus c.args.p c.if-p-lt2147483648.false
