use Rattle.std.proofs.Common.{suc, sym, ◌∙◌, add-one, eq-eqb, ne_eqb, arith}
use Rattle.clearance.specs.Clearance.{spot_unless}
use Rattle.clearance.proofs.near_player.Goals as goal

pub returns-in-Some : goal.returns-in-Some
unfolding spot_unless
returns-in-Some c =
    let a = c.args in
    simp (ne_eqb (suc a.i) a.skip (λ e. omega (arith, e, c.if-number-skip.false)), c.in-Some.is) c.nearer.ensures

pub returns-then-number-skip : goal.returns-then-number-skip
unfolding spot_unless
returns-then-number-skip c = let a = c.args in simp (eq-eqb (suc a.i) a.skip (sym (add-one a.i) ∙ c.if-number-skip.true))

pub returns-in-None : goal.returns-in-None
unfolding spot_unless
returns-in-None c =
    let a = c.args in
    simp (ne_eqb (suc a.i) a.skip (λ e. omega (arith, e, c.if-number-skip.false)), c.in-None.is)
