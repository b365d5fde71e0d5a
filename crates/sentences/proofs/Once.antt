-- What a line's bytes tell: the parts before the first blank, before the second, before the colon, and the words after it, each of which is the word of one value. Assumes nothing.
use mathlib.Core.Path.{◌≡◌, refl, sym, ap, ◌∙◌}
use mathlib.Core.Bool.{Bool, true, false, ◌&&◌, not}
use mathlib.Core.List.{List, [], ◌∷◌, ◌++◌}
use Prim.Native.Nat.{ℕ, ◌+◌, ◌*◌, ◌-◌, ◌<◌}
use native.Mathlib.Omega.{arith}
use borrow.Author.Tests.{eqb-true, eq-eqb, not-true}
use lib.Dec.{eqb}
use lib.ListN.{length, get_or}
use Rattle.lists.specs.Every.{every_to}
use Rattle.lists.proofs.Every.{every_at, both_true}
use Rattle.game.specs.declared.Side.{Side}
use Rattle.game.specs.declared.Side.TheVariants.{Home, Away}
use Rattle.game.specs.declared.Positioning.{Positioning}
use Rattle.game.specs.declared.Positioning.TheVariants.{Legal, Illegal, IllegalUnlessKicker, InAvoidanceRegion}
use Rattle.conditions.specs.declared.Condition.{Condition}
use Rattle.conditions.specs.declared.Condition.TheVariants.{NoCondition, OnCenterMark, OutsideCircle, InCircle, InOpponentHalf, InCenterCircle, OnPenaltyMark, BeyondPenaltyMark, InOpponentPenaltyArea, NearPenaltyMark, InOwnPenaltyArea, BehindOwnMark, NearOwnMark, NearBall, InGoalKickArea, InAreaOfBall}
use Rattle.sentences.specs.Sentences.{side_word, verdict_words, condition_words, number_word, line_of}

-- ---- the bytes before a byte that none of them is
-- none of the bytes is b
without : ℕ → List ℕ → Bool
without b [] = true
without b (x ∷ l) = not (eqb x b) && without b l

-- not of a list that begins with it
never_first : (b x : ℕ) (l : List ℕ) → without b (x ∷ l) ≡ true → x ≡ b → ⊥
unfolding without
never_first b x l w e =
    let no : eqb x b ≡ false = not-true (eqb x b) (both_true (not (eqb x b)) (without b l) w).0 in
    let yes : eqb x b ≡ true = eq-eqb x b e in
    let z : ◌≡◌ {A = ℕ} 0 1 = cc in
    omega arith

-- the bytes before it, and those after it
split_once : (b : ℕ) (k l r t : List ℕ) → without b k ≡ true → without b l ≡ true → k ++ (b ∷ r) ≡ l ++ (b ∷ t) → (k ≡ l) × (r ≡ t)
unfolding without
split_once b [] [] r t f g e = (refl, cc)
split_once b [] (y ∷ l) r t f g e = let same : y ≡ b = cc in absurd (never_first b y l g same)
split_once b (x ∷ k) [] r t f g e = let same : x ≡ b = cc in absurd (never_first b x k f same)
split_once b (x ∷ k) (y ∷ l) r t f g e =
    let head : x ≡ y = cc in
    let tail : k ++ (b ∷ r) ≡ l ++ (b ∷ t) = cc in
    let rest = split_once b k l r t (both_true (not (eqb x b)) (without b k) f).1 (both_true (not (eqb y b)) (without b l) g).1 tail in
    let same : k ≡ l = rest.0 in
    (cc, rest.1)

-- ---- no word before a blank has one, and none before the colon has that
side_without : (side : Side) → without 32 (side_word side) ≡ true
unfolding without side_word
side_without Home = refl
side_without Away = refl

verdict_without : (verdict : Positioning) → without 58 (verdict_words verdict) ≡ true
unfolding without verdict_words
verdict_without Legal = refl
verdict_without Illegal = refl
verdict_without IllegalUnlessKicker = refl
verdict_without InAvoidanceRegion = refl

number_without : (n : ℕ) → n < 21 → without 32 (number_word n) ≡ true
unfolding without every_to number_word
number_without n h = every_at 21 (λ (k : ℕ). without 32 (number_word k)) refl n h

-- ---- the value that a word is of
-- which of two
pick : {A : Type 0} → Bool → A → A → A
pick true a b = a
pick false a b = b

-- the same bytes
same : List ℕ → List ℕ → Bool
same [] [] = true
same [] (y ∷ l) = false
same (x ∷ k) [] = false
same (x ∷ k) (y ∷ l) = eqb x y && same k l

side_of : List ℕ → Side
side_of l = pick (same l (side_word Home)) Home Away

side_back : (side : Side) → side_of (side_word side) ≡ side
unfolding side_of pick same side_word
side_back Home = refl
side_back Away = refl

verdict_of : List ℕ → Positioning
verdict_of l = pick (same l (verdict_words Legal)) Legal (pick (same l (verdict_words Illegal)) Illegal (pick (same l (verdict_words IllegalUnlessKicker)) IllegalUnlessKicker InAvoidanceRegion))

verdict_back : (verdict : Positioning) → verdict_of (verdict_words verdict) ≡ verdict
unfolding verdict_of pick same verdict_words
verdict_back Legal = refl
verdict_back Illegal = refl
verdict_back IllegalUnlessKicker = refl
verdict_back InAvoidanceRegion = refl

-- the first of some conditions that has these words
named : List ℕ → List Condition → Condition
named l [] = NoCondition
named l (c ∷ cs) = pick (same l (condition_words c)) c (named l cs)

condition_of : List ℕ → Condition
condition_of l = named l (OnCenterMark ∷ OutsideCircle ∷ InCircle ∷ InOpponentHalf ∷ InCenterCircle ∷ OnPenaltyMark ∷ BeyondPenaltyMark ∷ InOpponentPenaltyArea ∷ NearPenaltyMark ∷ InOwnPenaltyArea ∷ BehindOwnMark ∷ NearOwnMark ∷ NearBall ∷ InGoalKickArea ∷ InAreaOfBall ∷ [])

condition_back : (condition : Condition) → condition_of (condition_words condition) ≡ condition
unfolding condition_of named pick same condition_words
condition_back NoCondition = refl
condition_back OnCenterMark = refl
condition_back OutsideCircle = refl
condition_back InCircle = refl
condition_back InOpponentHalf = refl
condition_back InCenterCircle = refl
condition_back OnPenaltyMark = refl
condition_back BeyondPenaltyMark = refl
condition_back InOpponentPenaltyArea = refl
condition_back NearPenaltyMark = refl
condition_back InOwnPenaltyArea = refl
condition_back BehindOwnMark = refl
condition_back NearOwnMark = refl
condition_back NearBall = refl
condition_back InGoalKickArea = refl
condition_back InAreaOfBall = refl

-- of one digit or two
number_of : List ℕ → ℕ
number_of l = pick (eqb (length l) 1) (get_or l 0 0 - 48) ((get_or l 0 0 - 48) * 10 + (get_or l 1 0 - 48))

number_back : (n : ℕ) → n < 21 → number_of (number_word n) ≡ n
unfolding number_of pick every_to number_word
number_back n h = eqb-true (number_of (number_word n)) n (every_at 21 (λ (k : ℕ). eqb (number_of (number_word k)) k) refl n h)

-- a word of two values with a way back is one value's
back : {A : Type 0} (f : A → List ℕ) (g : List ℕ → A) {x y : A} → g (f x) ≡ x → g (f y) ≡ y → f x ≡ f y → x ≡ y
back f g p q e = sym p ∙ ap g e ∙ q

-- ---- the line
pub line_once : (side side' : Side) (n n' : ℕ) (verdict verdict' : Positioning) (condition condition' : Condition) → n < 21 → n' < 21 → line_of side n verdict condition ≡ line_of side' n' verdict' condition'
    → (side ≡ side') × (n ≡ n') × (verdict ≡ verdict') × (condition ≡ condition')
unfolding line_of
line_once side side' n n' verdict verdict' condition condition' h h' e =
    let a = split_once 32 (side_word side) (side_word side') _ _ (side_without side) (side_without side') e in
    let b = split_once 32 (number_word n) (number_word n') _ _ (number_without n h) (number_without n' h') a.1 in
    let c = split_once 58 (verdict_words verdict) (verdict_words verdict') _ _ (verdict_without verdict) (verdict_without verdict') b.1 in
    let blank : 32 ∷ condition_words condition ≡ 32 ∷ condition_words condition' = c.1 in
    let d : condition_words condition ≡ condition_words condition' = cc in (
      back side_word side_of (side_back side) (side_back side') a.0,
      back number_word number_of (number_back n h) (number_back n' h') b.0,
      back verdict_words verdict_of (verdict_back verdict) (verdict_back verdict') c.0,
      back condition_words condition_of (condition_back condition) (condition_back condition') d,
    )
