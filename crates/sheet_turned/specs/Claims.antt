-- What the desk sees of the half turn: the sheet of an accepted situation beside that of the turned one, line by line. Definitions only.
use Rattle.std.specs.Prelude.{◌≡◌, Bool, true, false, List, [], ◌∷◌, ℕ, ◌≤◌, Float, length}
use Rattle.std.specs.Float.{binary32}
use Rattle.std.specs.Float.Ieee.{neg, eq, to_bits}
use Rattle.floats.specs.Arithmetic.{zero32}
use Rattle.floats.specs.Values.{Finite}
use Rattle.game.specs.Codes.{side_code}
use Rattle.game.specs.declared.Side.{Side}
use Rattle.game.specs.declared.Situation.{Situation}
use Rattle.places.specs.Turned.{GivenHeading}
use Rattle.refusals.specs.Refusals.{refusal_of}
use Rattle.decision.specs.Changed.{keeps_heading}
use Rattle.decision.specs.Decision.{decision_of}
use Rattle.decision.specs.Fit.{Fit}
use Rattle.decision.specs.HalfTurn.{turned, turned_places, Excepted}
use Rattle.lines.specs.declared.Row.{Row}
use Rattle.sheet.specs.Rows.{row, placed_value, sheet_rows}
use Rattle.call.specs.declared.SheetFor.{SheetFor}
use Rattle.call.specs.Call.{sheet_answer}
use Rattle.words.specs.Words.{situation_of}
use Rattle.places_hold.specs.Claims.{PlaceFloats}

-- ---- a line, and the line at the same place of the turned situation's sheet
-- x or y: the pattern of a finite binary32 other than zero and that of the same negated, or 0 both times
pub data TurnedValue : ℕ → ℕ → Type 0 where
  negated : (x : Float) → Finite binary32 x → eq x zero32 ≡ false → TurnedValue (to_bits binary32 x) (to_bits binary32 (neg x))
  zeros : TurnedValue 0 0

-- a given heading and the same turned half round: 0 and PI, or PI/2 and -PI/2, each as the sheet writes it
pub data TurnedHeading : ℕ → ℕ → Type 0 where
  half_round : (theta theta' : Float) → GivenHeading true true theta theta' → TurnedHeading (placed_value theta) (placed_value theta')

-- the header and the lines of kinds 1 to 6 are the same; those of kinds 7 to 9 have the same side and number; the ball's z is the same, and so is a player's heading where `kept` tells that the wish keeps it
pub data TurnedRow (kept : Bool) : Row → Row → Type 0 where
  same : {r : Row} → r.kind ≤ 6 → TurnedRow kept r r
  placed_x : {side number v w : ℕ} → TurnedValue v w → TurnedRow kept (row 7 side number v) (row 7 side number w)
  placed_y : {side number v w : ℕ} → TurnedValue v w → TurnedRow kept (row 8 side number v) (row 8 side number w)
  ball_z : {v : ℕ} → TurnedRow kept (row 9 2 0 v) (row 9 2 0 v)
  heading_kept : (side : Side) {number v : ℕ} → kept ≡ true → TurnedRow kept (row 9 (side_code side) number v) (row 9 (side_code side) number v)
  heading_turned : (side : Side) {number v w : ℕ} → kept ≡ false → TurnedHeading v w → TurnedRow kept (row 9 (side_code side) number v) (row 9 (side_code side) number w)

-- line by line, from the first to the last of both
pub data TurnedRows (kept : Bool) : List Row → List Row → Type 0 where
  no_more : TurnedRows kept [] []
  one_more : {r t : Row} {rs ts : List Row} → TurnedRow kept r t → TurnedRows kept rs ts → TurnedRows kept (r ∷ rs) (t ∷ ts)

-- ---- the claims
-- of two such values: one is 0 exactly where the other is, and neither is 2147483648, the pattern of -0, which the sheet had before the rule
pub record OneZero (v w : ℕ) : Type 0 where
  pub zero_stays : v ≡ 0 → w ≡ 0
  pub zero_before : w ≡ 0 → v ≡ 0
  pub no_other : (v ≡ 2147483648 → ⊥) × (w ≡ 2147483648 → ⊥)

abbrev pub OneZeroClaim : Type 0
OneZeroClaim = (v w : ℕ) → TurnedValue v w → OneZero v w

-- of both sheets: their lines, how many there are, and what is answered, for the desk or the display, for so many lent bytes
pub record TurnedSheet (s : Situation) (xs ys : List Float) : Type 0 where
  pub lines : TurnedRows (keeps_heading s.wish) (sheet_rows (decision_of s xs ys)) (sheet_rows (decision_of (turned s) (turned_places xs) (turned_places ys)))
  pub count : length (sheet_rows (decision_of (turned s) (turned_places xs) (turned_places ys))) ≡ length (sheet_rows (decision_of s xs ys))
  pub answer : (to : SheetFor) (lent : ℕ) → sheet_answer to (turned s) (turned_places xs) (turned_places ys) lent ≡ sheet_answer to s xs ys lent

-- it is so of every accepted situation outside the exception whose floats are binary32, as every f32 is
abbrev pub SheetHalfTurnClaim : Type 0
SheetHalfTurnClaim = (s : Situation) (xs ys : List Float) → Fit s → PlaceFloats s → refusal_of s xs ys ≡ 0 → (Excepted s → ⊥) → TurnedSheet s xs ys

-- and so of all words, with no premise but acceptance and the exception
abbrev pub WordsSheetHalfTurnClaim : Type 0
WordsSheetHalfTurnClaim = (ws : List ℕ) (xs ys : List Float) → refusal_of (situation_of ws) xs ys ≡ 0 → (Excepted (situation_of ws) → ⊥) → TurnedSheet (situation_of ws) xs ys
