-- The line as pieces: the side's word, the number's digits, the verdict's words and the condition's, with what stands between them. Assumes nothing.
use mathlib.Core.Path.{◌≡◌, refl, ap, subst, ◌∙◌}
use mathlib.Core.Bool.{Bool, true, false, cond}
use mathlib.Core.List.{List, [], ◌∷◌, ◌++◌, append_assoc}
use Prim.Native.Nat.{ℕ, ◌+◌, ◌-◌, ◌/◌, ◌%◌, ◌≤◌, ◌<◌}
use native.Mathlib.Omega.{arith}
use lib.Dec.{lit≤, ltb}
use lib.ListN.{length, take, drop, length-append}
use Rattle.std.specs.Prelude.{None, Some}
use Rattle.lists.specs.Put.{fronted_into}
use Rattle.lines.specs.Over.{over}
use Rattle.lines.proofs.Over.{Stage, stage_none, stage_next}
use Rattle.game.specs.declared.Side.{Side}
use Rattle.game.specs.declared.Side.TheVariants.{Home, Away}
use Rattle.game.specs.declared.Positioning.{Positioning}
use Rattle.game.specs.declared.Positioning.TheVariants.{Legal, Illegal, IllegalUnlessKicker, InAvoidanceRegion}
use Rattle.conditions.specs.declared.Condition.{Condition}
use Rattle.conditions.specs.declared.Condition.TheVariants.{NoCondition, OnCenterMark, OutsideCircle, InCircle, InOpponentHalf, InCenterCircle, OnPenaltyMark, BeyondPenaltyMark, InOpponentPenaltyArea, NearPenaltyMark, InOwnPenaltyArea, BehindOwnMark, NearOwnMark, NearBall, InGoalKickArea, InAreaOfBall}
use Rattle.sentences.specs.Sentences.{side_word, verdict_words, condition_words, number_word, line_of, written}
use Rattle.sentences.proofs.Written.{text_short, text_fits, text_stored}

-- ---- how long each is
pub side_long : (side : Side) → length (side_word side) ≡ 4
unfolding side_word
side_long Home = refl
side_long Away = refl

pub verdict_long : (verdict : Positioning) → length (verdict_words verdict) ≤ 21
unfolding verdict_words
verdict_long Legal = lit≤ tt
verdict_long Illegal = lit≤ tt
verdict_long IllegalUnlessKicker = lit≤ tt
verdict_long InAvoidanceRegion = lit≤ tt

pub condition_long : (condition : Condition) → length (condition_words condition) ≤ 43
unfolding condition_words
condition_long NoCondition = lit≤ tt
condition_long OnCenterMark = lit≤ tt
condition_long OutsideCircle = lit≤ tt
condition_long InCircle = lit≤ tt
condition_long InOpponentHalf = lit≤ tt
condition_long InCenterCircle = lit≤ tt
condition_long OnPenaltyMark = lit≤ tt
condition_long BeyondPenaltyMark = lit≤ tt
condition_long InOpponentPenaltyArea = lit≤ tt
condition_long NearPenaltyMark = lit≤ tt
condition_long InOwnPenaltyArea = lit≤ tt
condition_long BehindOwnMark = lit≤ tt
condition_long NearOwnMark = lit≤ tt
condition_long NearBall = lit≤ tt
condition_long InGoalKickArea = lit≤ tt
condition_long InAreaOfBall = lit≤ tt

pub number_few : (n : ℕ) → length (number_word n) ≤ 2
unfolding number_word
number_few n = go (ltb (n % 100) 10)
  where
    go : (b : Bool) → length (cond b ((48 + n % 10) ∷ []) ((48 + n / 10 % 10) ∷ (48 + n % 10) ∷ [])) ≤ 2
    go true = lit≤ tt
    go false = lit≤ tt

-- ---- the digits
-- the last of two, or both
pub digits_told : (n k : ℕ) → k ≡ length (number_word n) → take (2 - (2 - k)) (drop (2 - k) ((48 + n / 10 % 10) ∷ (48 + n % 10) ∷ [])) ≡ number_word n
unfolding number_word
digits_told n k e = ap (λ (j : ℕ). take (2 - (2 - j)) (drop (2 - j) ((48 + n / 10 % 10) ∷ (48 + n % 10) ∷ []))) e ∙ go (ltb (n % 100) 10)
  where
    word : Bool → List ℕ
    word b = cond b ((48 + n % 10) ∷ []) ((48 + n / 10 % 10) ∷ (48 + n % 10) ∷ [])

    go : (b : Bool) → take (2 - (2 - length (word b))) (drop (2 - length (word b)) (word false)) ≡ word b
    go true = refl
    go false = refl

-- ---- the line
-- the four parts, two blanks, a colon and a blank
pub line_long : (side : Side) (n : ℕ) (verdict : Positioning) (condition : Condition)
    → length (line_of side n verdict condition) ≡ length (side_word side) + (length (number_word n) + (length (verdict_words verdict) + length (condition_words condition))) + 4
unfolding line_of
line_long side n verdict condition = simp length-append (omega arith)

module _ (side : Side) (n : ℕ) (verdict : Positioning) (condition : Condition) (w d v c s : List ℕ) (P : w ≡ side_word side) (D : d ≡ number_word n) (Q : v ≡ verdict_words verdict) (R : c ≡ condition_words condition) where
  pieces_line : ((((((([] ++ w) ++ (32 ∷ [])) ++ d) ++ (32 ∷ [])) ++ v) ++ (58 ∷ 32 ∷ [])) ++ c) ≡ line_of side n verdict condition
  unfolding line_of
  pieces_line = simp (P, D, Q, R, append_assoc)

  length_line : length (line_of side n verdict condition) ≡ length w + 1 + length d + 1 + length v + 2 + length c
  length_line = omega (arith, line_long side n verdict condition, ap length P, ap length D, ap length Q, ap length R)

  -- where there is no room
  pub line_short : length s < length w + 1 + length d + 1 + length v + 2 + length c → (None ≡ written (line_of side n verdict condition) s) × (s ≡ fronted_into (line_of side n verdict condition) s)
  line_short h = text_short (line_of side n verdict condition) s (omega (arith, length_line))

  -- the pieces over the front of a list, each where the one before it ended, are the line there
  staged : (z : List ℕ) → length w + 1 + length d + 1 + length v + 2 + length c ≤ length z → (t1 t2 t3 t4 t5 t6 t7 : List ℕ) (n1 n2 n3 n4 n5 n6 n7 : ℕ)
      → t1 ≡ over 0 w z → n1 ≡ 0 + length w → length t1 ≡ length z
      → t2 ≡ over n1 (32 ∷ []) t1 → n2 ≡ n1 + 1 → length t2 ≡ length t1
      → t3 ≡ over n2 d t2 → n3 ≡ n2 + length d → length t3 ≡ length t2
      → t4 ≡ over n3 (32 ∷ []) t3 → n4 ≡ n3 + 1 → length t4 ≡ length t3
      → t5 ≡ over n4 v t4 → n5 ≡ n4 + length v → length t5 ≡ length t4
      → t6 ≡ over n5 (58 ∷ 32 ∷ []) t5 → n6 ≡ n5 + 2 → length t6 ≡ length t5
      → t7 ≡ over n6 c t6 → n7 ≡ n6 + length c → length t7 ≡ length t6
      → Stage 0 z (line_of side n verdict condition) t7 n7
  staged z room t1 t2 t3 t4 t5 t6 t7 n1 n2 n3 n4 n5 n6 n7 e1 m1 l1 e2 m2 l2 e3 m3 l3 e4 m4 l4 e5 m5 l5 e6 m6 l6 e7 m7 l7 =
      let a1 = stage_next w t1 n1 (stage_none 0 z) (omega arith) e1 m1 l1 in
      let a2 = stage_next (32 ∷ []) t2 n2 a1 (omega arith) e2 m2 l2 in
      let a3 = stage_next d t3 n3 a2 (omega arith) e3 m3 l3 in
      let a4 = stage_next (32 ∷ []) t4 n4 a3 (omega arith) e4 m4 l4 in
      let a5 = stage_next v t5 n5 a4 (omega arith) e5 m5 l5 in
      let a6 = stage_next (58 ∷ 32 ∷ []) t6 n6 a5 (omega arith) e6 m6 l6 in
      subst (λ (t : List ℕ). Stage 0 z t t7 n7) pieces_line (stage_next c t7 n7 a6 (omega arith) e7 m7 l7)

  -- where there is, and the pieces are written
  pub line_fits : length w + 1 + length d + 1 + length v + 2 + length c ≤ length s → (t1 t2 t3 t4 t5 t6 t7 : List ℕ) (n1 n2 n3 n4 n5 n6 n7 : ℕ)
      → t1 ≡ over 0 w s → n1 ≡ 0 + length w → length t1 ≡ length s
      → t2 ≡ over n1 (32 ∷ []) t1 → n2 ≡ n1 + 1 → length t2 ≡ length t1
      → t3 ≡ over n2 d t2 → n3 ≡ n2 + length d → length t3 ≡ length t2
      → t4 ≡ over n3 (32 ∷ []) t3 → n4 ≡ n3 + 1 → length t4 ≡ length t3
      → t5 ≡ over n4 v t4 → n5 ≡ n4 + length v → length t5 ≡ length t4
      → t6 ≡ over n5 (58 ∷ 32 ∷ []) t5 → n6 ≡ n5 + 2 → length t6 ≡ length t5
      → t7 ≡ over n6 c t6 → n7 ≡ n6 + length c → length t7 ≡ length t6
      → (Some n7 ≡ written (line_of side n verdict condition) s) × (t7 ≡ fronted_into (line_of side n verdict condition) s)
  line_fits h t1 t2 t3 t4 t5 t6 t7 n1 n2 n3 n4 n5 n6 n7 e1 m1 l1 e2 m2 l2 e3 m3 l3 e4 m4 l4 e5 m5 l5 e6 m6 l6 e7 m7 l7 =
      text_fits (line_of side n verdict condition) s t7 n7 (omega (arith, length_line)) (staged s h t1 t2 t3 t4 t5 t6 t7 n1 n2 n3 n4 n5 n6 n7 e1 m1 l1 e2 m2 l2 e3 m3 l3 e4 m4 l4 e5 m5 l5 e6 m6 l6 e7 m7 l7)

  -- where there is, and the pieces were written at the front of a list and copied from there
  pub line_stored : length w + 1 + length d + 1 + length v + 2 + length c ≤ length s → (z part : List ℕ) → length w + 1 + length d + 1 + length v + 2 + length c ≤ length z → (t1 t2 t3 t4 t5 t6 t7 : List ℕ) (n1 n2 n3 n4 n5 n6 n7 : ℕ)
      → t1 ≡ over 0 w z → n1 ≡ 0 + length w → length t1 ≡ length z
      → t2 ≡ over n1 (32 ∷ []) t1 → n2 ≡ n1 + 1 → length t2 ≡ length t1
      → t3 ≡ over n2 d t2 → n3 ≡ n2 + length d → length t3 ≡ length t2
      → t4 ≡ over n3 (32 ∷ []) t3 → n4 ≡ n3 + 1 → length t4 ≡ length t3
      → t5 ≡ over n4 v t4 → n5 ≡ n4 + length v → length t5 ≡ length t4
      → t6 ≡ over n5 (58 ∷ 32 ∷ []) t5 → n6 ≡ n5 + 2 → length t6 ≡ length t5
      → t7 ≡ over n6 c t6 → n7 ≡ n6 + length c → length t7 ≡ length t6
      → part ≡ take n7 t7 → (Some n7 ≡ written (line_of side n verdict condition) s) × (part ++ drop n7 s ≡ fronted_into (line_of side n verdict condition) s)
  line_stored h z part room t1 t2 t3 t4 t5 t6 t7 n1 n2 n3 n4 n5 n6 n7 e1 m1 l1 e2 m2 l2 e3 m3 l3 e4 m4 l4 e5 m5 l5 e6 m6 l6 e7 m7 l7 e =
      text_stored (line_of side n verdict condition) z t7 s part n7 (omega (arith, length_line)) (staged z room t1 t2 t3 t4 t5 t6 t7 n1 n2 n3 n4 n5 n6 n7 e1 m1 l1 e2 m2 l2 e3 m3 l3 e4 m4 l4 e5 m5 l5 e6 m6 l6 e7 m7 l7) e
