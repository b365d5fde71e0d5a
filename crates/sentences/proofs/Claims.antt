-- The claims about the coach's lines. Assumes nothing.
use mathlib.Core.Path.{◌≡◌, refl}
use Prim.Native.Nat.{ℕ, ◌≤◌}
use native.Mathlib.Omega.{arith}
use lib.Dec.{lit≤}
use lib.ListN.{length}
use Rattle.game.specs.declared.Side.{Side}
use Rattle.game.specs.declared.Side.TheVariants.{Home}
use Rattle.game.specs.declared.Positioning.{Positioning}
use Rattle.game.specs.declared.Positioning.TheVariants.{Legal, IllegalUnlessKicker}
use Rattle.conditions.specs.declared.Condition.{Condition}
use Rattle.conditions.specs.declared.Condition.TheVariants.{NoCondition, InCircle}
use Rattle.sentences.specs.Sentences.{side_word, verdict_words, condition_words, number_word, line_of, longest}
use Rattle.sentences.specs.Claims.{Longest, SentenceOnceClaim, LongestClaim, NeverEmptyClaim}
use Rattle.sentences.proofs.Pieces.{side_long, verdict_long, condition_long, number_few, line_long}
use Rattle.sentences.proofs.Once.{line_once}

-- ---- once
pub sentence_once : SentenceOnceClaim
sentence_once side side' n n' verdict verdict' condition condition' h h' e = line_once side side' n n' verdict verdict' condition condition' (omega (arith, h.last)) (omega (arith, h'.last)) e

-- ---- lengths
-- no line is longer than that, whatever the number, the verdict and the condition are
pub longest_long : (side : Side) (n : ℕ) (verdict : Positioning) (condition : Condition) → length (line_of side n verdict condition) ≤ longest
longest_long side n verdict condition =
    omega (arith, line_long side n verdict condition, side_long side, number_few n, verdict_long verdict, condition_long condition)

-- "Home 20 illegal unless kicker: only the kicker may be in the centre circle"
one_longest : Longest
unfolding line_of side_word number_word verdict_words condition_words
one_longest =
    record {
      side = Home;
      number = 20;
      verdict = IllegalUnlessKicker;
      condition = InCircle;
      told =
          record {
            first = lit≤ tt;
            last = lit≤ tt;
            not_legal = λ (e : IllegalUnlessKicker ≡ Legal). let z : ◌≡◌ {A = ℕ} 0 1 = cc in omega arith;
            some = λ (e : InCircle ≡ NoCondition). let z : ◌≡◌ {A = ℕ} 0 1 = cc in omega arith;
          };
      long = refl;
    }

pub longest_holds : LongestClaim
longest_holds = ((λ side n verdict condition h. longest_long side n verdict condition), one_longest)

pub never_empty : NeverEmptyClaim
never_empty side n verdict condition = omega (arith, line_long side n verdict condition)
