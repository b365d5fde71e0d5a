-- What the rest of a text adds to what is known after some bytes. It stays the same from byte to byte, so that it is the outcome of the whole text. Assumes nothing.
use mathlib.Core.Path.{◌≡◌, refl, sym, ap, ap₂, ◌∙◌}
use mathlib.Core.Bool.{Bool, true, false, cond, ◌&&◌}
use mathlib.Core.List.{List, [], ◌∷◌}
use Prim.Native.Nat.{ℕ, suc, ◌+◌, ◌-◌, ◌*◌, ◌≤◌, ◌<◌}
use native.Mathlib.Numerals.{add-one}
use native.Mathlib.Omega.{arith}
use borrow.Author.Tests.{leb-false, lt-leb}
use lib.ListN.{length, drop, set, get_or, drop_of_length-le}
use lib.Seq.{sets, drop-cons}
use Rattle.lists.specs.Put.{put_if}
use Rattle.numbers.specs.declared.Progress.{Progress}
use Rattle.numbers.specs.declared.Progress.TheVariants.{Closed, Open}
use Rattle.std.specs.Prelude.{Result, Ok, Err}
use Rattle.numbers.specs.declared.Unread.{Unread}
use Rattle.numbers.specs.declared.Unread.TheVariants.{NotANumber, TooLarge}
use Rattle.numbers.specs.Numbers.{is_separator, is_digit, is_small, on_first, cut, pieces, non_empty, all_digits, value_from, value_of, numbers_in, reading_from, then_more, judged, fields, numbers_of, reading_of, stored}
use Rattle.numbers.specs.Walk.{Separator, Digit, Other, kind_of, with_digit, ended, stored_at_end, after_digit, after_other, after_byte, stored_by_byte}
use Rattle.numbers.proofs.Stored.{sets_stored}

-- a reading and a buffer
abbrev pub Outcome : Type 0
Outcome = Result ℕ Unread × List ℕ

-- the outcome of fields that follow n numbers
unfoldable pub finished : ℕ → List (List ℕ) → List ℕ → Outcome
finished n fs buffer = (reading_from n fs, sets buffer n (numbers_in fs))

-- the outcome of a field and those after it, where the Bools tell whether it has only digits and whether its value v is small
unfoldable pub met : Bool → Bool → ℕ → ℕ → List (List ℕ) → List ℕ → Outcome
met false small n v fs buffer = (Err (NotANumber n), buffer)
met true false n v fs buffer = (Err (TooLarge n), buffer)
met true true n v fs buffer = finished (n + 1) fs (set buffer n v)

-- the outcome of a reading and the fields after it
unfoldable pub resumed : Result ℕ Unread → List (List ℕ) → List ℕ → Outcome
resumed (Ok n) fs buffer = finished n fs buffer
resumed (Err unread) fs buffer = (Err unread, buffer)

-- the outcome of what is known and the pieces after it, the first of which goes on with the open field
unfoldable pub continued : Progress → List (List ℕ) → List ℕ → Outcome
continued (Closed r) ps buffer = resumed r (non_empty ps) buffer
continued (Open n v) [] buffer = met true (is_small v) n v [] buffer
continued (Open n v) (p ∷ ps) buffer = met (all_digits p) (is_small (value_from v p)) n (value_from v p) (non_empty ps) buffer

-- a field by itself
finished_field : (n : ℕ) (f : List ℕ) (fs : List (List ℕ)) (buffer : List ℕ) → finished n (f ∷ fs) buffer ≡ met (all_digits f) (is_small (value_of f)) n (value_of f) fs buffer
unfolding finished met reading_from numbers_in
finished_field n f fs buffer = go (all_digits f) (is_small (value_of f))
  where
    go : (d s : Bool)
        → ◌≡◌ {A = Outcome} (judged d s n (reading_from (n + 1) fs), sets buffer n (then_more (d && s) (value_of f) (numbers_in fs))) (met d s n (value_of f) fs buffer)
    go false s = refl
    go true false = refl
    go true true = ap (λ (k : ℕ). (reading_from (n + 1) fs, sets (set buffer n (value_of f)) k (numbers_in fs))) (sym (add-one n))

-- ---- a value that is too large stays so
pub value_grows : (v : ℕ) (f : List ℕ) → v ≤ value_from v f
unfolding value_from
value_grows v [] = omega arith
value_grows v (b ∷ f) = omega (arith, value_grows (10 * v + (b - 48)) f)

stays_large : (v : ℕ) → 4294967295 < v → (f : List ℕ) → is_small (value_from v f) ≡ false
stays_large v h f = lt-leb (value_from v f) 4294967295 (omega (arith, value_grows v f))

met_large : (digits : Bool) (n v w : ℕ) (fs : List (List ℕ)) (buffer : List ℕ) → met digits false n v fs buffer ≡ met digits false n w fs buffer
unfolding met
met_large false n v w fs buffer = refl
met_large true n v w fs buffer = refl

-- so all such values have one outcome
large_same : (n v w : ℕ) → 4294967295 < v → 4294967295 < w → (ps : List (List ℕ)) (buffer : List ℕ) → continued (Open n v) ps buffer ≡ continued (Open n w) ps buffer
unfolding continued
large_same n v w a b [] buffer = simp (lt-leb v 4294967295 a, lt-leb w 4294967295 b) (met_large true n v w [] buffer)
large_same n v w a b (p ∷ ps) buffer = simp (stays_large v a p, stays_large w b p) (met_large (all_digits p) n _ _ (non_empty ps) buffer)

held_same : (n v d : ℕ) (ps : List (List ℕ)) (buffer : List ℕ) → continued (Open n (10 * v + d)) ps buffer ≡ continued (Open n (with_digit v d)) ps buffer
unfolding with_digit
held_same n v d ps buffer = go (is_small (10 * v + d)) refl
  where
    go : (s : Bool) → is_small (10 * v + d) ≡ s → continued (Open n (10 * v + d)) ps buffer ≡ continued (Open n (cond s (10 * v + d) 4294967296)) ps buffer
    go true e = refl
    go false e = large_same n (10 * v + d) 4294967296 (leb-false (10 * v + d) 4294967295 e) (omega arith) ps buffer

-- ---- a byte on
-- a separator ends the open field
separator_on : (p : Progress) (ps : List (List ℕ)) (buffer : List ℕ) → continued p ([] ∷ ps) buffer ≡ continued (Closed (ended p)) ps (stored_at_end p buffer)
unfolding continued non_empty all_digits value_from
separator_on (Closed r) ps buffer = refl
separator_on (Open n v) ps buffer = go (is_small v)
  where
    go : (s : Bool) → met true s n v (non_empty ps) buffer ≡ resumed (cond s (Ok (n + 1)) (Err (TooLarge n))) (non_empty ps) (put_if s buffer n v)
    go true = unfold met resumed in refl
    go false = unfold met resumed in refl

-- a byte that does not separate opens a field
field_on : (b n : ℕ) (ps : List (List ℕ)) (buffer : List ℕ) → continued (Closed (Ok n)) (on_first b ps) buffer ≡ continued (Open n 0) (on_first b ps) buffer
unfolding continued resumed non_empty
field_on b n [] buffer = finished_field n (b ∷ []) [] buffer
field_on b n (p ∷ ps) buffer = finished_field n (b ∷ p) (non_empty ps) buffer

-- a digit goes on with it
digit_more : (b : ℕ) → is_digit b ≡ true → (n v : ℕ) (ps : List (List ℕ)) (buffer : List ℕ) → continued (Open n v) (on_first b ps) buffer ≡ continued (Open n (10 * v + (b - 48))) ps buffer
unfolding continued non_empty all_digits value_from
digit_more b e n v [] buffer = simp e
digit_more b e n v (p ∷ ps) buffer = simp e

digit_on : (b : ℕ) → is_digit b ≡ true → (p : Progress) (ps : List (List ℕ)) (buffer : List ℕ) → continued p (on_first b ps) buffer ≡ continued (after_digit p (b - 48)) ps buffer
digit_on b e (Closed (Ok n)) ps buffer = field_on b n ps buffer ∙ digit_more b e n 0 ps buffer ∙ ap (λ (v : ℕ). continued (Open n v) ps buffer) (omega arith)
digit_on b e (Closed (Err unread)) ps buffer = unfold continued resumed in refl
digit_on b e (Open n v) ps buffer = digit_more b e n v ps buffer ∙ held_same n v (b - 48) ps buffer

-- any other byte spoils it
other_more : (b : ℕ) → is_digit b ≡ false → (n v : ℕ) (ps : List (List ℕ)) (buffer : List ℕ) → continued (Open n v) (on_first b ps) buffer ≡ continued (Closed (Err (NotANumber n))) ps buffer
unfolding continued resumed met all_digits
other_more b e n v [] buffer = simp e
other_more b e n v (p ∷ ps) buffer = simp e

other_on : (b : ℕ) → is_digit b ≡ false → (p : Progress) (ps : List (List ℕ)) (buffer : List ℕ) → continued p (on_first b ps) buffer ≡ continued (Closed (after_other p)) ps buffer
other_on b e (Closed (Ok n)) ps buffer = field_on b n ps buffer ∙ other_more b e n 0 ps buffer
other_on b e (Closed (Err unread)) ps buffer = unfold continued resumed in refl
other_on b e (Open n v) ps buffer = other_more b e n v ps buffer

-- any byte
pub byte_on : (b : ℕ) (p : Progress) (rest buffer : List ℕ) → continued p (pieces (b ∷ rest)) buffer ≡ continued (after_byte (kind_of b) p) (pieces rest) (stored_by_byte (kind_of b) p buffer)
unfolding pieces kind_of
byte_on b p rest buffer = go (is_separator b) (is_digit b) refl
  where
    go : (s d : Bool) → is_digit b ≡ d
        → continued p (cut s b (pieces rest)) buffer
        ≡ continued (after_byte (cond s Separator (cond d (Digit (b - 48)) Other)) p) (pieces rest) (stored_by_byte (cond s Separator (cond d (Digit (b - 48)) Other)) p buffer)
    go true d e = separator_on p (pieces rest) buffer
    go false true e = digit_on b e p (pieces rest) buffer
    go false false e = other_on b e p (pieces rest) buffer

-- ---- the text's end
resumed_end : (r : Result ℕ Unread) (buffer : List ℕ) → resumed r [] buffer ≡ (r, buffer)
unfolding resumed finished reading_from numbers_in
resumed_end (Ok n) buffer = refl
resumed_end (Err unread) buffer = refl

pub end_on : (p : Progress) (buffer : List ℕ) → continued p (pieces []) buffer ≡ (ended p, stored_at_end p buffer)
unfolding pieces continued non_empty
end_on p buffer = separator_on p [] buffer ∙ resumed_end (ended p) (stored_at_end p buffer)

-- ---- the loop
-- before it
pub start_on : (text buffer : List ℕ) → continued (Closed (Ok 0)) (pieces text) buffer ≡ finished 0 (fields text) buffer
unfolding continued resumed
start_on text buffer = refl

-- a turn
pub turn_on : (text numbers next : List ℕ) (p after : Progress) (i : ℕ) (whole : Outcome) → i < length text → continued p (pieces (drop i text)) numbers ≡ whole
    → after ≡ after_byte (kind_of (get_or text i 0)) p → next ≡ stored_by_byte (kind_of (get_or text i 0)) p numbers → continued after (pieces (drop (i + 1) text)) next ≡ whole
turn_on text numbers next p after i whole h e a s =
    ap₂ (λ (q : Progress) (l : List ℕ). continued q (pieces (drop (i + 1) text)) l) a s
    ∙ ap (λ (k : ℕ). continued (after_byte (kind_of (get_or text i 0)) p) (pieces (drop k text)) (stored_by_byte (kind_of (get_or text i 0)) p numbers)) (add-one i)
    ∙ sym (byte_on (get_or text i 0) p (drop (suc i) text) numbers)
    ∙ ap (λ (l : List ℕ). continued p (pieces l) numbers) (sym (drop-cons text i 0 h))
    ∙ e

-- after it
pub all_read_holds : (text buffer numbers last : List ℕ) (p : Progress) (r : Result ℕ Unread) (i : ℕ) → length text ≤ i → continued p (pieces (drop i text)) numbers ≡ finished 0 (fields text) buffer
    → r ≡ ended p → last ≡ stored_at_end p numbers → (r ≡ reading_of text) × (last ≡ stored (numbers_of text) buffer)
unfolding finished
all_read_holds text buffer numbers last p r i h e a s =
    let all : (ended p, stored_at_end p numbers) ≡ finished 0 (fields text) buffer =
    sym (end_on p numbers) ∙ ap (λ (l : List ℕ). continued p (pieces l) numbers) (sym (drop_of_length-le text h)) ∙ e in
    (a ∙ ap (λ (o : Outcome). o.0) all, s ∙ ap (λ (o : Outcome). o.1) all ∙ sets_stored buffer (numbers_of text))
