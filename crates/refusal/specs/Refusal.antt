-- The refusals by their numbers. Definitions only.
use Rattle.std.specs.Prelude.{cond, Result, Ok, Err, ℕ, eqb}
use Rattle.refusal.specs.declared.Refusal.{Refusal}
use Rattle.refusal.specs.declared.Refusal.TheVariants.{Field, Pose, Ball, Number, Distance, ListRoom, SheetRoom, TextRoom, Display}

-- the number of each
abbrev pub number_of : Refusal → ℕ
number_of Field = 1
number_of Pose = 2
number_of Ball = 3
number_of Number = 4
number_of Distance = 5
number_of ListRoom = 6
number_of SheetRoom = 7
number_of TextRoom = 8
number_of Display = 12

-- the one with a number, of the nine
abbrev pub refusal_numbered : ℕ → Refusal
refusal_numbered n =
    cond (eqb n 1) Field
    (cond (eqb n 2) Pose
    (cond (eqb n 3) Ball
    (cond (eqb n 4) Number
    (cond (eqb n 5) Distance
    (cond (eqb n 6) ListRoom
    (cond (eqb n 7) SheetRoom
    (cond (eqb n 8) TextRoom Display)))))))

-- a refusal by its number
abbrev pub refused : {A : Type 0} → ℕ → Result A Refusal
refused n = Err (refusal_numbered n)

-- a value where the number is 0, which stands for no refusal, or the refusal with this number
abbrev pub unless_refused : {A : Type 0} → ℕ → A → Result A Refusal
unless_refused n x = cond (eqb n 0) (Ok x) (refused n)

-- the number of a refusal, or 0 for none
abbrev pub number_in : {A : Type 0} → Result A Refusal → ℕ
number_in (Ok x) = 0
number_in (Err r) = number_of r
