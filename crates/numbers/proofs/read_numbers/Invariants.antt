-- What the rest of the text adds to what is known is the outcome of the whole text.
use Rattle.std.proofs.Common.{◌≡◌, ◌≤◌, drop}
use Rattle.numbers.specs.Numbers.{pieces, fields}
use Rattle.numbers.specs.Walk.{begun, open_value}
use Rattle.numbers.proofs.Continued.{finished, continued}
use Rattle.numbers.proofs.read_numbers.Given as goal

abbrev pub invariant-loop-b : goal.invariant-loop-b
invariant-loop-b l =
    (begun l.progress ≤ l.b-index) × (open_value l.progress ≤ 4294967296) × (continued l.progress (pieces (drop l.b-index l.text)) l.numbers ≡ finished 0 (fields l.text) l.initial.numbers)
