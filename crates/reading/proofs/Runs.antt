-- The lines of one block by themselves: which of them the walk accepts. Assumes nothing.
use mathlib.Core.Path.{◌≡◌, refl}
use mathlib.Core.Bool.{Bool, true, ◌&&◌, cond}
use mathlib.Core.List.{List, [], ◌∷◌}
use Prim.Native.Nat.{ℕ, ◌^◌}
use lib.Bits.{bit_or}
use lib.Dec.{eqb}
use Rattle.lines.specs.declared.Row.{Row}
use Rattle.reading.specs.Rules.{only}
use Rattle.reading.specs.Walk.{block, begins, continues, ends}

-- ---- a block by itself
-- the flags after its first line, and after one more
abbrev pub first_seen : Row → ℕ
first_seen r = cond (eqb r.kind 2) (2 ^ r.number) 0

abbrev pub more_seen : ℕ → Row → ℕ
more_seen seen r = cond (eqb r.kind 2) (bit_or seen (2 ^ r.number)) 0

-- the lines of a block after the line l of it
unfoldable pub run_from : Row → ℕ → List Row → Bool
run_from l seen [] = ends l
run_from l seen (r ∷ rs) = continues l seen r && run_from r (more_seen seen r) rs

pub run_end : (l : Row) (seen : ℕ) → run_from l seen [] ≡ ends l
unfolding run_from
run_end l seen = refl

pub run_next : (l : Row) (seen : ℕ) (r : Row) (rs : List Row) → run_from l seen (r ∷ rs) ≡ (continues l seen r && run_from r (more_seen seen r) rs)
unfolding run_from
run_next l seen r rs = refl

-- all lines of a block
abbrev pub runs : List Row → Bool
runs [] = true
runs (r ∷ rs) = begins r && run_from r (first_seen r) rs

-- the lines of a block in a list
abbrev pub in_block : ℕ → List Row → List Row
in_block b rs = only (λ r. eqb (block r) b) rs
