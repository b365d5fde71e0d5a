-- Of two clearances the later is taken unless the comparison tells that it is less.
use Rattle.std.proofs.Common.{◌≡◌, Bool, true, false, refl, sym, ap, ◌∙◌}
use Prim.Native.Nat.{Ordering}
use Rattle.floats.specs.Compare.{order}
use Rattle.floats.specs.Leaves.{total_order}
use Rattle.std.specs.declared.cmp.Ordering as Std
use Rattle.std.specs.declared.cmp.Ordering.TheVariants.{Less, Equal, Greater}
use Rattle.penalty.specs.Penalty.{not_below}
use Rattle.penalty.specs.Walk.{considered}
use Rattle.penalty.proofs.considered.Goals as goal

abbrev at_least : Std.Ordering → Bool
at_least Less = false
at_least Equal = true
at_least Greater = true

-- the enum tells what the comparison does
is_at_least : (o : Ordering) → not_below o ≡ at_least (order o)
is_at_least Ordering.lt = refl
is_at_least Ordering.eq = refl
is_at_least Ordering.gt = refl

told : (o : Ordering) (r e : Std.Ordering) → r ≡ order o → r ≡ e → not_below o ≡ at_least e
told o r e p q = is_at_least o ∙ ap at_least (sym p ∙ q)

pub returns-in-Less : goal.returns-in-Less
unfolding considered
returns-in-Less c = simp (c.if-choice.false, c.if-c-distance.false, told (total_order c.args.c c.args.choice.clearance) c.total_cmp.result Less c.total_cmp.ensures c.in-Less.is)

pub returns-then-choice : goal.returns-then-choice
unfolding considered
returns-then-choice c = simp c.if-choice.true

pub returns-then-c-distance : goal.returns-then-c-distance
unfolding considered
returns-then-c-distance c = simp (c.if-choice.false, c.if-c-distance.true)

pub returns-in-Equal : goal.returns-in-Equal
unfolding considered
returns-in-Equal c = simp (c.if-choice.false, c.if-c-distance.false, told (total_order c.args.c c.args.choice.clearance) c.total_cmp.result Equal c.total_cmp.ensures c.in-Equal.is)

pub returns-in-Greater : goal.returns-in-Greater
unfolding considered
returns-in-Greater c = simp (c.if-choice.false, c.if-c-distance.false, told (total_order c.args.c c.args.choice.clearance) c.total_cmp.result Greater c.total_cmp.ensures c.in-Greater.is)
