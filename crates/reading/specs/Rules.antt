-- What a sheet is, by the numbers of its lines. Definitions only.
use Rattle.std.specs.Prelude.{Bool, true, false, not, ◌&&◌, ◌||◌, List, [], ◌∷◌, ◌++◌, ℕ, suc, eqb, ltb, leb, length}
use Rattle.lists.specs.Gather.{only_if}
use Rattle.lines.specs.declared.Row.{Row}
use Rattle.items.specs.Items.{is_item}

-- ---- lines
-- the lines with a property, in their order
unfoldable pub only : (Row → Bool) → List Row → List Row
only p [] = []
only p (r ∷ rs) = only_if (p r) r ++ only p rs

-- every line has a property
unfoldable pub every : (Row → Bool) → List Row → Bool
every p [] = true
every p (r ∷ rs) = p r && every p rs

-- a line and the next one, and so on to the last two, stand in a relation
unfoldable pub each_next : (Row → Row → Bool) → Row → List Row → Bool
each_next p r [] = true
each_next p r (t ∷ rs) = p r t && each_next p t rs

-- each line and the one after it
abbrev pub in_a_row : (Row → Row → Bool) → List Row → Bool
in_a_row p [] = true
in_a_row p (r ∷ rs) = each_next p r rs

-- the lines of a kind
abbrev pub of_kind : ℕ → List Row → List Row
of_kind kind rs = only (λ r. eqb r.kind kind) rs

-- the lines of kind 2 of a side
abbrev pub excess_of : ℕ → List Row → List Row
excess_of side rs = only (λ r. eqb r.kind 2 && eqb r.side side) rs

-- ---- the clauses, of the lines after the header
-- a kind that is not lower, and in kind 2 Home before Away
abbrev pub not_before : Row → Row → Bool
not_before r t = ltb r.kind t.kind || (eqb r.kind t.kind && (not (eqb r.kind 2) || leb r.side t.side))

-- kinds never fall, and Home comes first in kind 2
abbrev pub in_order : List Row → Bool
in_order rs = in_a_row not_before rs

-- an earlier player: Home 1 to 20, then Away 1 to 20
abbrev pub earlier : Row → Row → Bool
earlier r t = ltb r.side t.side || (eqb r.side t.side && ltb r.number t.number)

-- players strictly rise in a kind
abbrev pub players_rise : ℕ → List Row → Bool
players_rise kind rs = in_a_row earlier (of_kind kind rs)

-- the ranks are n, n + 1, n + 2, ..
unfoldable pub ranks_from : ℕ → List Row → Bool
ranks_from n [] = true
ranks_from n (r ∷ rs) = eqb r.value n && ranks_from (suc n) rs

-- a side's ranks are 1, 2, 3, .. without gaps
abbrev pub ranked : ℕ → List Row → Bool
ranked side rs = ranks_from 1 (excess_of side rs)

-- no player twice
unfoldable pub none_twice : List Row → Bool
none_twice [] = true
none_twice (r ∷ rs) = every (λ t. not (eqb t.number r.number)) rs && none_twice rs

-- a side names no player twice
abbrev pub named_once : ℕ → List Row → Bool
named_once side rs = none_twice (excess_of side rs)

-- at most one line of a kind
abbrev pub at_most_one : ℕ → List Row → Bool
at_most_one kind rs = leb (length (of_kind kind rs)) 1

-- as many lines of one kind as of another
abbrev pub as_many : ℕ → ℕ → List Row → Bool
as_many kind other rs = eqb (length (of_kind kind rs)) (length (of_kind other rs))

-- the same player, or the ball
abbrev pub same_who : Row → Row → Bool
same_who r t = eqb r.side t.side && eqb r.number t.number

-- the lines of a place
abbrev pub placing : List Row → List Row
placing rs = only (λ r. leb 7 r.kind) rs

-- one each of 7, 8 and 9 for the same player or the ball, or none of them
abbrev pub one_place : List Row → Bool
one_place rs = at_most_one 7 rs && (as_many 7 8 rs && (as_many 7 9 rs && in_a_row same_who (placing rs)))

-- ---- the sheet
-- all clauses
unfoldable pub is_body : List Row → Bool
is_body rs =
    every is_item rs
    && (in_order rs
    && (players_rise 1 rs
    && (ranked 0 rs && (ranked 1 rs
    && (named_once 0 rs && (named_once 1 rs
    && (at_most_one 3 rs
    && (players_rise 4 rs
    && (players_rise 5 rs
    && (at_most_one 6 rs
    && one_place rs))))))))))

-- the header: kind 0, side 2, the number of lines that follow, value 1
abbrev pub is_header : Row → ℕ → Bool
is_header r n = eqb r.kind 0 && (eqb r.side 2 && (eqb r.number n && eqb r.value 1))

-- a header, and the lines that follow
abbrev pub is_sheet : List Row → Bool
is_sheet [] = false
is_sheet (r ∷ rs) = is_header r (length rs) && is_body rs
