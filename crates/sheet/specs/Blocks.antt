-- Lines of one kind and side in the making, and those of a place. Definitions only; no contract of an exported function needs them.
use Rattle.std.specs.Prelude.{List, [], ◌∷◌, ℕ, ◌≤◌, ◌<◌, ◌≡◌, get_or, Option, None, Some}
use Rattle.lists.specs.Gather.{flat_to}
use Rattle.lists.specs.Table.{table}
use Rattle.game.specs.declared.PlayerList.{PlayerList}
use Rattle.game.specs.declared.Side.{Side}
use Rattle.lines.specs.declared.Row.{Row}
use Rattle.sheet.specs.Rows.{row, list_rows}
use Rattle.sheet.specs.declared.blocks.Block.{Block}
use Rattle.sheet.specs.declared.blocks.PlaceLines.{PlaceLines}

-- the line k of a block
abbrev pub block_row : Block → ℕ → Row
block_row b k = row b.kind b.side (get_or b.numbers k 0) (get_or b.values k 0)

-- its lines
unfoldable pub block_rows : Block → List Row
block_rows b = table b.count (block_row b)

-- the block holds these lines
abbrev pub Holds : Block → List Row → Type 0
Holds b rows = (b.count ≤ 20) × (block_rows b ≡ rows)

-- the block holds the lines of a list of players, by every rule for their values that the given values follow
abbrev pub HoldsList : Block → ℕ → Side → List ℕ → PlayerList → Type 0
HoldsList b kind side values l = (value : ℕ → ℕ) → ((k : ℕ) → k < 20 → get_or values k 0 ≡ value k) → Holds b (list_rows kind side value l)

-- no block has more lines than it has places for
abbrev pub Few : List Block → Type 0
Few [] = Unit
Few (b ∷ bs) = (b.count ≤ 20) × Few bs

-- the block at a place, an empty one past the end
abbrev pub block_at : List Block → ℕ → Block
block_at bs i = get_or bs i (record { kind = 0; side = 0; count = 0; numbers = []; values = [] })

-- the lines of the first n blocks, one after the other
abbrev pub rows_to : List Block → ℕ → List Row
rows_to bs n = flat_to n (λ k. block_rows (block_at bs k))

-- of the ten
unfoldable pub all_rows : List Block → List Row
all_rows bs = rows_to bs 10

-- the lines of a place: three, or none
unfoldable pub place_line_rows : Option PlaceLines → List Row
place_line_rows None = []
place_line_rows (Some s) = row 7 s.side s.number s.x ∷ row 8 s.side s.number s.y ∷ row 9 s.side s.number s.z ∷ []
