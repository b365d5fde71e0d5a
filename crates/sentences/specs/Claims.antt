-- What is claimed of the coach's lines, whether or not a situation gives them. Definitions only.
use Rattle.std.specs.Prelude.{◌≡◌, ℕ, ◌≤◌, length}
use Rattle.game.specs.declared.Side.{Side}
use Rattle.game.specs.declared.Positioning.{Positioning}
use Rattle.game.specs.declared.Positioning.TheVariants.{Legal}
use Rattle.conditions.specs.declared.Condition.{Condition}
use Rattle.conditions.specs.declared.Condition.TheVariants.{NoCondition}
use Rattle.sentences.specs.Sentences.{line_of, longest}

-- what a line is asked for: a number from 1 to 20, a verdict other than Legal, and one of the fifteen conditions
pub record Told (number : ℕ) (verdict : Positioning) (condition : Condition) : Type 0 where
  pub first : 1 ≤ number
  pub last : number ≤ 20
  pub not_legal : verdict ≡ Legal → ⊥
  pub some : condition ≡ NoCondition → ⊥

-- equal lines are of the same side, number, verdict and condition
abbrev pub SentenceOnceClaim : Type 0
SentenceOnceClaim =
    (side side' : Side) (number number' : ℕ) (verdict verdict' : Positioning) (condition condition' : Condition) → Told number verdict condition → Told number' verdict' condition'
    → line_of side number verdict condition ≡ line_of side' number' verdict' condition' → (side ≡ side') × (number ≡ number') × (verdict ≡ verdict') × (condition ≡ condition')

-- one of the longest lines
pub record Longest : Type 0 where
  pub side : Side
  pub number : ℕ
  pub verdict : Positioning
  pub condition : Condition
  pub told : Told number verdict condition
  pub long : length (line_of side number verdict condition) ≡ longest

-- no line is longer than `longest`, and there is one of this length
abbrev pub LongestClaim : Type 0
LongestClaim = ((side : Side) (number : ℕ) (verdict : Positioning) (condition : Condition) → Told number verdict condition → length (line_of side number verdict condition) ≤ longest) × Longest

-- every line has a byte, so that a length of 0 tells that there is no line
abbrev pub NeverEmptyClaim : Type 0
NeverEmptyClaim = (side : Side) (number : ℕ) (verdict : Positioning) (condition : Condition) → 1 ≤ length (line_of side number verdict condition)
