-- Records of a list of bytes, and lent bytes with a text at their front. Definitions only.
use Rattle.std.specs.Prelude.{Bool, false, ◌&&◌, cond, Option, None, Some, Result, Ok, Err, List, [], ◌∷◌, ℕ, ◌+◌, ◌-◌, ◌%◌, ◌^◌, eqb, ltb, length, take, drop, get_or}
use Rattle.lists.specs.Every.{every_to}
use Rattle.numbers.specs.declared.Unread.{Unread}
use Rattle.numbers.specs.Numbers.{numbers_of, reading_of, stored}
use Rattle.records.specs.declared.Record.{Record}
use Rattle.records.specs.declared.Tally.{Tally}

-- ---- a record
-- the line of a head at a place
abbrev pub line_at : List ℕ → ℕ → List ℕ
line_at list at = take 45 (drop at list)

-- the numbers of that line: kind, room, bytes of the input, bytes of the answer
abbrev pub head_at : List ℕ → ℕ → List ℕ
head_at list at = stored (numbers_of (line_at list at)) (0 ∷ 0 ∷ 0 ∷ 0 ∷ [])

-- a head has four numbers and a line feed at its end
abbrev pub is_head : Result ℕ Unread → ℕ → Bool
is_head (Ok n) last = eqb n 4 && eqb last 10
is_head (Err unread) last = false

-- the input begins at its place and the answer after it; a list of so many bytes has both whole
unfoldable pub framed : ℕ → ℕ → List ℕ → Option Record
framed size input head =
    cond (ltb (size - input) (get_or head 2 0 + get_or head 3 0)) None
    (Some (record { kind = get_or head 0 0; lent = get_or head 1 0; input = input; answer = input + get_or head 2 0; next = input + (get_or head 2 0 + get_or head 3 0) }))

-- what stands at a place of a list: a head, an input and an answer
unfoldable pub record_at : List ℕ → ℕ → Option Record
record_at list at =
    cond (ltb (length list - at) 45) None
    (cond (is_head (reading_of (line_at list at)) (get_or list (at + 44) 0)) (framed (length list) (at + 45) (head_at list at)) None)

-- ---- lent bytes
-- each byte is the text's, and after the text's end the one that was lent
unfoldable pub holds : List ℕ → ℕ → List ℕ → Bool
holds text fill bytes = every_to (length bytes) (λ i. eqb (get_or bytes i 0) (get_or text i fill))

-- so many bytes are those of the text, and the bytes hold it
unfoldable pub is_written : ℕ → List ℕ → ℕ → List ℕ → Bool
is_written n text fill bytes = eqb n (length text) && holds text fill bytes

-- ---- how many records agree
-- one record more; the sums are modulo 2^64
unfoldable pub counted : Tally → Bool → Tally
counted t agrees = record { agree = cond agrees ((t.agree + 1) % 2 ^ 64) t.agree; records = (t.records + 1) % 2 ^ 64 }
