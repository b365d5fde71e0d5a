-- The first requirement of a list that does not hold, by its number: a list of refusals. Definitions only.
use Rattle.std.specs.Prelude.{Bool, true, ◌&&◌, cond, List, [], ◌∷◌, ℕ, ltb}

-- what must hold, and the number of the refusal where it does not
pub record Requirement : Type 0 where
  pub holds : Bool
  pub number : ℕ

-- the rest's answer where the requirement holds, else its number
abbrev pub or_refused : Requirement → ℕ → ℕ
or_refused c rest = cond c.holds rest c.number

-- the number of the first requirement that does not hold, and 0 where all do
abbrev pub first_refusal : List Requirement → ℕ
first_refusal [] = 0
first_refusal (c ∷ cs) = or_refused c (first_refusal cs)

-- all hold
abbrev pub all_hold : List Requirement → Bool
all_hold [] = true
all_hold (c ∷ cs) = c.holds && all_hold cs

-- no number is 0, which stands for no refusal
abbrev pub all_numbered : List Requirement → Bool
all_numbered [] = true
all_numbered (c ∷ cs) = ltb 0 c.number && all_numbered cs
