-- What the parts of the code tell each other. Definitions only: nothing here stands in the contract of an exported function.
use Rattle.std.specs.Prelude.{cond, Result, Ok, Err, List, ℕ, ◌+◌, ◌-◌, ◌*◌}
use Rattle.lists.specs.Put.{put_if}
use Rattle.numbers.specs.declared.Progress.{Progress}
use Rattle.numbers.specs.declared.Progress.TheVariants.{Closed, Open}
use Rattle.numbers.specs.declared.Unread.{Unread}
use Rattle.numbers.specs.declared.Unread.TheVariants.{NotANumber, TooLarge}
use Rattle.numbers.specs.Numbers.{is_separator, is_digit, is_small}

-- what a byte is; of a digit, its value
pub data Kind : Type 0 where
  Separator : Kind
  Digit : ℕ → Kind
  Other : Kind

-- the kind of a byte
unfoldable pub kind_of : ℕ → Kind
kind_of b = cond (is_separator b) Separator (cond (is_digit b) (Digit (b - 48)) Other)

-- a value with one digit more, where 2^32 stands for every value that is too large
unfoldable pub with_digit : ℕ → ℕ → ℕ
with_digit v d = cond (is_small (10 * v + d)) (10 * v + d) 4294967296

-- the reading where the field ends here
abbrev pub ended : Progress → Result ℕ Unread
ended (Closed r) = r
ended (Open n v) = cond (is_small v) (Ok (n + 1)) (Err (TooLarge n))

-- and the buffer
abbrev pub stored_at_end : Progress → List ℕ → List ℕ
stored_at_end (Closed r) buffer = buffer
stored_at_end (Open n v) buffer = put_if (is_small v) buffer n v

-- after a digit, which opens a field outside of one, unless there was a fault
abbrev pub after_digit : Progress → ℕ → Progress
after_digit (Closed (Ok n)) d = Open n d
after_digit (Closed (Err unread)) d = Closed (Err unread)
after_digit (Open n v) d = Open n (with_digit v d)

-- after a byte that is neither a digit nor a separator: a fault of this field or of the next, unless there was one
abbrev pub after_other : Progress → Result ℕ Unread
after_other (Closed (Ok n)) = Err (NotANumber n)
after_other (Closed (Err unread)) = Err unread
after_other (Open n v) = Err (NotANumber n)

-- after a byte
abbrev pub after_byte : Kind → Progress → Progress
after_byte Separator p = Closed (ended p)
after_byte (Digit d) p = after_digit p d
after_byte Other p = Closed (after_other p)

-- the buffer after a byte: only the end of a field stores
abbrev pub stored_by_byte : Kind → Progress → List ℕ → List ℕ
stored_by_byte Separator p buffer = stored_at_end p buffer
stored_by_byte (Digit d) p buffer = buffer
stored_by_byte Other p buffer = buffer

-- ---- bounds
-- how many numbers a reading has, or how many come before its fault
abbrev pub field_of : Result ℕ Unread → ℕ
field_of (Ok n) = n
field_of (Err (NotANumber k)) = k
field_of (Err (TooLarge k)) = k

-- how many fields have begun
abbrev pub begun : Progress → ℕ
begun (Closed r) = field_of r
begun (Open n v) = n + 1

-- the value of the open field
abbrev pub open_value : Progress → ℕ
open_value (Closed r) = 0
open_value (Open n v) = v
