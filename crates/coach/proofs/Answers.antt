-- What the coach's calls answer and leave: their lists of refusals. Assumes nothing.
use mathlib.Core.Path.{◌≡◌, refl, sym, ap, subst, ◌∙◌}
use mathlib.Core.Bool.{Bool, true, false, not, ◌&&◌, ◌||◌, cond}
use mathlib.Core.List.{List, [], ◌∷◌, ◌++◌, map}
use Prim.Native.Nat.{ℕ, ◌≤◌}
use native.Mathlib.Omega.{arith}
use borrow.Author.Tests.{eq-eqb, ne_eqb, leb-true}
use lib.Dec.{eqb, leb, ltb}
use lib.Ieee.{Float}
use lib.ListN.{length, take, drop}
use Rattle.std.specs.Prelude.{Result, Ok, Err, MatchResult, IsErrAnd}
use Rattle.lists.specs.Put.{fronted_into}
use Rattle.lists.specs.Refusals.{Requirement, first_refusal, all_numbered}
use Rattle.lists.proofs.Bools.{both_true}
use Rattle.game.specs.Players.{min_number, max_number}
use Rattle.game.specs.declared.Side.{Side}
use Rattle.game.specs.declared.Situation.{Situation}
use Rattle.refusal.specs.Refusal.{number_of, refusal_numbered, refused}
use Rattle.refusal.specs.declared.Refusal.{Refusal}
use Rattle.refusals.specs.Refusals.{field_fits, poses_fit, ball_fits, numbers_fit, distance_fits, is_player_number, five, requirements_of, refusal_of}
use Rattle.sheet.specs.Sheet.{bytes_in}
use Rattle.sheet.proofs.Texts.{call_answer, call_after, answer_by, after_by, call_room}
use Rattle.coach.specs.Coach.{sentence_of, asked_requirements, coach_requirements, sentence_answer, sentence_after, sentences_of, sentences_answer, sentences_after, line_answer, with_number, by_number, text_answer, text_after}

-- ---- the number that is asked for among the situation's refusals
-- 4 before 5
inserted : (a b c d e h : Bool)
    → first_refusal (take 4 (five a b c d e) ++ (record { holds = h; number = 4 } ∷ drop 4 (five a b c d e))) ≡ cond ((eqb (first_refusal (five a b c d e)) 0 || eqb (first_refusal (five a b c d e)) 5) && not h) 4 (first_refusal (five a b c d e))
inserted false b c d e h = refl
inserted true false c d e h = refl
inserted true true false d e h = refl
inserted true true true false e h = refl
inserted true true true true true true = refl
inserted true true true true true false = refl
inserted true true true true false true = refl
inserted true true true true false false = refl

module _ (s : Situation) (xs ys : List Float) (n : ℕ) where
  asked_first : first_refusal (asked_requirements s xs ys n) ≡ with_number (refusal_of s xs ys) n
  unfolding asked_requirements refusal_of requirements_of
  asked_first =
      inserted (field_fits s.field) (poses_fit s.home s.away xs ys) (ball_fits s.ball) (numbers_fit s.home.goalkeeper s.away.goalkeeper s.restart s.wish) (distance_fits s.penalty_placement_distance) (is_player_number n)

  asked_numbered : all_numbered (asked_requirements s xs ys n) ≡ true
  unfolding asked_requirements requirements_of
  asked_numbered = refl

-- the refusals of the line on one player in their order; its answer and its bytes are those of the list before 8, and 8 after it
module _ (s : Situation) (xs ys : List Float) (side : Side) (n : ℕ) where
  in_order : (lent : ℕ) → map (λ (r : Requirement). r.number) (coach_requirements s xs ys side n lent) ≡ 1 ∷ 2 ∷ 3 ∷ 4 ∷ 4 ∷ 5 ∷ 8 ∷ []
  unfolding asked_requirements requirements_of
  in_order lent = refl

  answer_as : (lent : ℕ) → sentence_answer s xs ys side n lent ≡ call_answer (asked_requirements s xs ys n) 8 (sentence_of s side n) lent
  unfolding sentence_answer
  answer_as lent = let order = in_order lent in refl

  after_as : (text : List ℕ) → sentence_after s xs ys side n text ≡ call_after (asked_requirements s xs ys n) 8 (sentence_of s side n) text
  unfolding sentence_after
  after_as text = let order = in_order (length text) in refl

numbered : (s : Situation) (xs ys : List Float) → all_numbered (requirements_of s xs ys) ≡ true
unfolding requirements_of
numbered s xs ys = refl

-- a number that is not refused
pub number_fits_holds : (r n : ℕ) → with_number r n ≡ 0 → (min_number ≤ n) × (n ≤ max_number)
number_fits_holds r n e = go (is_player_number n) refl
  where
    inside : is_player_number n ≡ true → (min_number ≤ n) × (n ≤ max_number)
    inside t = let both = both_true (leb min_number n) (leb n max_number) t in (leb-true min_number n both.0, leb-true n max_number both.1)

    never : (a b : Bool) → eqb r 0 ≡ a → cond ((a || b) && true) 4 r ≡ 0 → ⊥
    never true b p q = let z : ◌≡◌ {A = ℕ} 4 0 = q in omega (arith, z)
    never false true p q = let z : ◌≡◌ {A = ℕ} 4 0 = q in omega (arith, z)
    never false false p q = let z : ◌≡◌ {A = ℕ} 0 1 = cc (ap (λ (k : ℕ). eqb k 0) q) in omega arith

    go : (b : Bool) → is_player_number n ≡ b → (min_number ≤ n) × (n ≤ max_number)
    go true t = inside t
    go false t = absurd (never (eqb r 0) (eqb r 5) refl (ap (λ (b : Bool). cond ((eqb r 0 || eqb r 5) && not b) 4 r) (sym t) ∙ e))

-- ---- errors that are mapped
pub numbers_told : (told : Result ℕ Refusal) (r : Result ℕ ℕ) → MatchResult told (λ n. r ≡ Ok n) (λ e. IsErrAnd r (λ k. k ≡ number_of e)) → r ≡ by_number told
numbers_told (Ok n) r h = h
numbers_told (Err e) (Ok n) h = absurd h
numbers_told (Err e) (Err k) h = ap Err h

-- an answer with the refusal that its number has
abbrev pub with_refusal : Result ℕ ℕ → Result ℕ Refusal
with_refusal (Ok n) = Ok n
with_refusal (Err k) = refused k

pub refusals_told : (told : Result ℕ ℕ) (r : Result ℕ Refusal) → MatchResult told (λ n. r ≡ Ok n) (λ k. IsErrAnd r (λ e. e ≡ refusal_numbered k)) → r ≡ with_refusal told
refusals_told (Ok n) r h = h
refusals_told (Err k) (Ok n) h = absurd h
refusals_told (Err k) (Err e) h = ap Err h

-- ---- where the first refusal but 8 is known
module _ (refusal : ℕ) (text s : List ℕ) where
  pub text_refused : (refusal ≡ 0 → ⊥) → (Err refusal ≡ text_answer refusal text (length s)) × (s ≡ text_after refusal text s)
  unfolding text_answer text_after
  text_refused h = let no = ne_eqb refusal 0 h in (ap (λ (b : Bool). cond b (by_number (line_answer text (length s))) (Err refusal)) (sym no), ap (λ (b : Bool). cond b (fronted_into text s) s) (sym no))

  pub text_told : (r : Result ℕ Refusal) (next : List ℕ) → refusal ≡ 0 → r ≡ line_answer text (length s) → next ≡ fronted_into text s → (by_number r ≡ text_answer refusal text (length s)) × (next ≡ text_after refusal text s)
  unfolding text_answer text_after
  text_told r next h e p =
      let yes = eq-eqb refusal 0 h in
      (ap by_number e ∙ ap (λ (b : Bool). cond b (by_number (line_answer text (length s))) (Err refusal)) (sym yes), p ∙ ap (λ (b : Bool). cond b (fronted_into text s) s) (sym yes))

-- by the test of the lent bytes, with the refusal in place of its number
text_by : (refusal : ℕ) (text : List ℕ) (lent : ℕ) → with_refusal (text_answer refusal text lent) ≡ cond (eqb refusal 0) (cond (ltb lent (length text)) (refused 8) (Ok (length text))) (refused refusal)
unfolding text_answer
text_by refusal text lent =
    ap (λ (a : Result ℕ Refusal). with_refusal (cond (eqb refusal 0) (by_number a) (Err refusal))) (answer_by [] 8 text refl refl lent) ∙ go (eqb refusal 0) (ltb lent (length text))
  where
    go : (a b : Bool) → with_refusal (cond a (by_number (cond b (refused 8) (Ok (length text)))) (Err refusal)) ≡ cond a (cond b (refused 8) (Ok (length text))) (refused refusal)
    go true true = refl
    go true false = refl
    go false b = refl

-- the two calls, by the situation's first refusal
module _ (s : Situation) (xs ys : List Float) (own : ℕ) (first : own ≡ refusal_of s xs ys) where
  asked : (n : ℕ) → with_number own n ≡ first_refusal (asked_requirements s xs ys n)
  asked n = ap (λ (k : ℕ). with_number k n) first ∙ sym (asked_first s xs ys n)

  pub sentence_answer_holds : (side : Side) (n lent : ℕ) → with_refusal (text_answer (with_number own n) (sentence_of s side n) lent) ≡ sentence_answer s xs ys side n lent
  sentence_answer_holds side n lent =
      ap (λ (k : ℕ). with_refusal (text_answer k (sentence_of s side n) lent)) (asked n)
      ∙ text_by (first_refusal (asked_requirements s xs ys n)) (sentence_of s side n) lent
      ∙ sym (answer_as s xs ys side n lent ∙ answer_by (asked_requirements s xs ys n) 8 (sentence_of s side n) (asked_numbered s xs ys n) refl lent)

  pub sentence_after_holds : (side : Side) (n : ℕ) (text : List ℕ) → text_after (with_number own n) (sentence_of s side n) text ≡ sentence_after s xs ys side n text
  unfolding text_after fronted_into
  sentence_after_holds side n text =
      ap (λ (k : ℕ). text_after k (sentence_of s side n) text) (asked n) ∙ sym (after_as s xs ys side n text ∙ after_by (asked_requirements s xs ys n) 8 (sentence_of s side n) (asked_numbered s xs ys n) refl text)

  pub sentences_answer_holds : (lent : ℕ) → with_refusal (text_answer own (sentences_of s) lent) ≡ sentences_answer s xs ys lent
  unfolding sentences_answer refusal_of
  sentences_answer_holds lent = ap (λ (k : ℕ). with_refusal (text_answer k (sentences_of s) lent)) first ∙ text_by (refusal_of s xs ys) (sentences_of s) lent ∙ sym (answer_by (requirements_of s xs ys) 8 (sentences_of s) (numbered s xs ys) refl lent)

  pub sentences_after_holds : (text : List ℕ) → text_after own (sentences_of s) text ≡ sentences_after s xs ys text
  unfolding text_after sentences_after refusal_of fronted_into
  sentences_after_holds text = ap (λ (k : ℕ). text_after k (sentences_of s) text) first ∙ sym (after_by (requirements_of s xs ys) 8 (sentences_of s) (numbered s xs ys) refl text)

-- no more bytes are written than were lent
pub sentence_room : (s : Situation) (xs ys : List Float) (side : Side) (n lent : ℕ) → bytes_in (sentence_answer s xs ys side n lent) ≤ lent
sentence_room s xs ys side n lent =
    subst (λ (a : Result ℕ Refusal). bytes_in a ≤ lent) (sym (answer_as s xs ys side n lent)) (call_room (asked_requirements s xs ys n) 8 (sentence_of s side n) (asked_numbered s xs ys n) refl lent)

-- ---- the lines on all
module _ (s : Situation) (xs ys : List Float) where
  -- by whether the situation itself is refused, and by the test of the lent bytes
  pub answer_cases : (lent : ℕ) → sentences_answer s xs ys lent ≡ cond (eqb (refusal_of s xs ys) 0) (cond (ltb lent (length (sentences_of s))) (refused 8) (Ok (length (sentences_of s)))) (refused (refusal_of s xs ys))
  unfolding sentences_answer refusal_of
  answer_cases lent = answer_by (requirements_of s xs ys) 8 (sentences_of s) (numbered s xs ys) refl lent

  pub after_told : (text : List ℕ) → sentences_after s xs ys text ≡ cond (eqb (refusal_of s xs ys) 0) (fronted_into (sentences_of s) text) text
  unfolding sentences_after refusal_of fronted_into
  after_told text = after_by (requirements_of s xs ys) 8 (sentences_of s) (numbered s xs ys) refl text
