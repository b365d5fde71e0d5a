use Rattle.std.proofs.Common.{rules, ◌≡◌, sym, ◌∙◌, ap, ℕ, ◌+◌, ◌≤◌, Bool, [], ◌++◌, get_or, ltb, arith, length-set}
use borrow.Author.Tests.{lt-ltb, le-ltb}
use Rattle.lists.specs.Gather.{flat_to, only_if}
use Rattle.lists.specs.Put.{count_if}
use Rattle.lists.specs.Table.{table}
use Rattle.lists.proofs.Gather.{gather_turn, gather_done}
use Rattle.sheet.specs.Rows.{row, verdict_row, verdict_rows}
use Rattle.sheet.specs.Blocks.{block_rows}
use Rattle.sheet.proofs.BlockLaws.{block_grown}
use Rattle.sheet.proofs.blocks.verdict_block.Goals as goal
use Rattle.sheet.proofs.blocks.verdict_block.Goals.{then-value-gt0, else-value-gt0}

pub loop-i-preserved : goal.loop-i-preserved
loop-i-preserved c = let at = c.loop-i in
    let value = c.positioning_code-value in
    let code = c.side_code-code.result in
    let rows = table at.n (λ k. row 1 code (get_or at.numbers k 0) (get_or at.values k 0)) in
    let counted : c.if-value-gt0.n ≡ count_if (ltb 0 value.result) at.n =
    elim c.if-value-gt0.branch [
      | then-value-gt0 w ↦ w.n-is ∙ sym (ap (λ (b : Bool). count_if b at.n) (lt-ltb 0 value.result w.if-value-gt0.true))
      | else-value-gt0 w ↦ w.n-is ∙ sym (ap (λ (b : Bool). count_if b at.n) (le-ltb 0 value.result w.if-value-gt0.false))
    ] in
    let few : c.if-value-gt0.n ≤ at.i + 1 =
    elim c.if-value-gt0.branch [
      | then-value-gt0 w ↦ omega (arith, w.n-is, at.invariant.0)
      | else-value-gt0 w ↦ omega (arith, w.n-is, at.invariant.0)
    ] in (
      few,
      simp length-set at.invariant.1,
      simp length-set at.invariant.2,
      gather_turn (verdict_row code c.args.verdicts) [] rows _ at.i at.invariant.3
          (block_grown 1 code at.n (at.i + 1) value.result at.numbers at.values (search rules) (search rules) (ltb 0 value.result) _ counted
          ∙ ap (λ (w : ℕ). rows ++ only_if (ltb 0 w) (row 1 code (at.i + 1) w)) value.ensures),
    )

pub returns : goal.returns
unfolding verdict_rows block_rows
returns c = let at = c.loop-i in
    let code = c.side_code-code.result in (
      omega (arith, at.auto.i-end, at.invariant.0),
      gather_done (verdict_row code c.args.verdicts) [] (table at.n (λ k. row 1 code (get_or at.numbers k 0) (get_or at.values k 0))) at.i 20 at.auto.i-end c.loop-i-test.false at.invariant.3
          ∙ ap (λ (w : ℕ). flat_to 20 (verdict_row w c.args.verdicts)) c.side_code-code.ensures,
    )
