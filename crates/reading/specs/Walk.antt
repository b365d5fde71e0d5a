-- What the parts of the code tell each other: the lines one after the other, each with what is kept of those before it. Definitions only; no contract of an exported function needs them.
use Rattle.std.specs.Prelude.{Bool, true, false, not, ◌&&◌, ◌||◌, cond, Option, None, Some, List, [], ◌∷◌, ℕ, ◌+◌, ◌*◌, ◌/◌, ◌%◌, ◌^◌, eqb, ltb, leb}
use Rattle.std.specs.Int.Bits.{bit_or}
use Rattle.lists.specs.Table.{table}
use Rattle.lines.specs.declared.Row.{Row}
use Rattle.fields.specs.Fields.{line_read, line_at, line_count}
use Rattle.items.specs.Items.{is_item}
use Rattle.reading.specs.Rules.{not_before, earlier, same_who}
use Rattle.reading.specs.declared.Walk.{Walk}
use Rattle.reading.specs.declared.Walk.TheVariants.{NotLines, Breach, Start, After}

-- ---- blocks of lines that follow each other: a kind, but for kind 2 a side's, and 7, 8 and 9 are one
unfoldable pub block : Row → ℕ
block r = cond (leb 7 r.kind) 14 (cond (eqb r.kind 2) (cond (eqb r.side 0) 4 5) (2 * r.kind))

-- a line may begin its block
unfoldable pub begins : Row → Bool
begins r = cond (eqb r.kind 2) (eqb r.value 1) (ltb r.kind 8)

-- the flag of a number is set
abbrev pub flagged : ℕ → ℕ → Bool
flagged seen number = eqb (seen / 2 ^ number % 2) 1

-- it may follow the line before it in its block, in kind 2 with the flags of those before it
unfoldable pub continues : Row → ℕ → Row → Bool
continues l seen r =
    cond (eqb r.kind 2) (eqb r.value (l.value + 1) && not (flagged seen r.number))
    (cond (leb 7 r.kind) (eqb r.kind (l.kind + 1) && same_who l r)
    (not (eqb r.kind 3) && (not (eqb r.kind 6) && earlier l r)))

-- a block may end with it
abbrev pub ends : Row → Bool
ends r = not (eqb r.kind 7 || eqb r.kind 8)

-- the line r may follow the line l
unfoldable pub linked : Row → ℕ → Row → Bool
linked l seen r = cond (eqb (block l) (block r)) (continues l seen r) (ends l && begins r)

-- the flags after it: one more in its block, or it alone
unfoldable pub seen_after : Row → ℕ → Row → ℕ
seen_after l seen r = cond (eqb r.kind 2) (cond (eqb (block l) (block r)) (bit_or seen (2 ^ r.number)) (2 ^ r.number)) 0

-- the numbers of an item, in order, and linked
unfoldable pub fits_after : Row → ℕ → Row → Bool
fits_after l seen r = is_item r && (not_before l r && linked l seen r)

-- ---- the walk
-- after the line l, which is known to fit
abbrev pub after_line : Bool → ℕ → Row → Walk
after_line true seen r = After r seen
after_line false seen r = Breach

-- the first line is a header, but for its count
abbrev pub opens : Row → Bool
opens r = eqb r.kind 0 && (eqb r.side 2 && eqb r.value 1)

-- one line on
abbrev pub next : Walk → Option Row → Walk
next w None = NotLines
next NotLines (Some r) = NotLines
next Breach (Some r) = Breach
next Start (Some r) = after_line (opens r) 0 r
next (After l seen) (Some r) = after_line (fits_after l seen r) (seen_after l seen r) r

-- the lines of a text, each read by itself
unfoldable pub lines_in : List ℕ → List (Option Row)
lines_in text = table (line_count text) (λ i. line_read (line_at text i))

-- all lines
unfoldable pub walked : Walk → List (Option Row) → Walk
walked w [] = w
walked w (x ∷ xs) = walked (next w x) xs

-- one of them was no line
abbrev pub broken : Walk → Bool
broken NotLines = true
broken Breach = false
broken Start = false
broken (After l seen) = false

-- a sheet can end here
abbrev pub whole : Walk → Bool
whole NotLines = false
whole Breach = false
whole Start = false
whole (After l seen) = ends l

-- a first line of kind 0 counts the others, where there are so many lines
abbrev pub counted_by : Option Row → ℕ → Bool
counted_by None n = true
counted_by (Some r) n = not (eqb r.kind 0) || eqb (r.number + 1) n

-- the lines after l, with the flags of its block, can end a sheet
unfoldable pub accepts : Row → ℕ → List Row → Bool
accepts l seen [] = ends l
accepts l seen (r ∷ rs) = fits_after l seen r && accepts r (seen_after l seen r) rs
