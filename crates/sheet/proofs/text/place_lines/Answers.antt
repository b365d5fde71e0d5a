-- Three lines, each where the one before it ended.
use Rattle.std.proofs.Common.{◌∙◌, sym, ap, List, ◌+◌, length, arith}
use Rattle.lines.specs.declared.Row.{Row}
use Rattle.lines.specs.Line.{lines_of}
use Rattle.lines.specs.Over.{over}
use Rattle.lines.proofs.Over.{over_none}
use Rattle.sheet.specs.Blocks.{place_line_rows}
use Rattle.sheet.proofs.Written.{rows_none, row_next}
use Rattle.sheet.proofs.text.place_lines.Goals as goal

pub returns-in_default : goal.returns-in_default
unfolding lines_of place_line_rows
returns-in_default c = over_none _ _ ∙ ap (λ (r : List Row). over c.args.at (lines_of r) c.args.sheet.now) (sym (ap place_line_rows c.in_default.is))

pub line_at-requires : goal.line_at-requires
unfolding place_line_rows
line_at-requires c = omega (arith, c.requires, ap (λ p. length (place_line_rows p)) c.in-Some.is)

pub line_at-requires-2 : goal.line_at-requires-2
unfolding place_line_rows
line_at-requires-2 c = omega (arith, c.requires, c.line_at.auto.sheet, ap (λ p. length (place_line_rows p)) c.in-Some.is)

pub line_at-requires-3 : goal.line_at-requires-3
unfolding place_line_rows
line_at-requires-3 c = omega (arith, c.requires, c.line_at.auto.sheet, c.line_at-2.auto.sheet, ap (λ p. length (place_line_rows p)) c.in-Some.is)

pub returns : goal.returns
unfolding place_line_rows
returns c = let a = c.args in
    let three = ap place_line_rows c.in-Some.is in
    let room = ap length three in
    let x = row_next a.at a.at a.sheet.now _ _ _ _ (rows_none a.at a.sheet.now) (omega (arith, c.requires, room)) c.line_at.ensures c.line_at.auto.sheet in
    let y = row_next a.at (a.at + 45) a.sheet.now _ _ _ _ x (omega (arith, c.requires, room)) c.line_at-2.ensures c.line_at-2.auto.sheet in
    let z = row_next a.at (a.at + 45 + 45) a.sheet.now _ _ _ _ y (omega (arith, c.requires, room)) c.line_at-3.ensures c.line_at-3.auto.sheet in
    z.written ∙ ap (λ (r : List Row). over a.at (lines_of r) a.sheet.now) (sym three)
