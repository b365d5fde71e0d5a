-- What the entries' definitions give in each case that the code tells apart. Assumes nothing.
use mathlib.Core.Path.{◌≡◌, refl, ap, ap₂, sym, ◌∙◌}
use mathlib.Core.Bool.{Bool, true, false, ◌&&◌, cond, true≢false}
use mathlib.Core.List.{List}
use Prim.Native.Nat.{ℕ, ◌+◌, ◌≤◌}
use native.Mathlib.Omega.{arith}
use borrow.Author.Tests.{eq-eqb, ne_eqb}
use lib.Ieee.{Float}
use lib.Dec.{eqb}
use lib.IntN.{ℤ, pos}
use lib.ListN.{length, drop, length-append}
use Rattle.std.specs.Prelude.{Result}
use Rattle.lists.specs.Put.{fronted}
use Rattle.game.specs.declared.Side.{Side}
use Rattle.game.specs.declared.Situation.{Situation}
use Rattle.candidates.specs.Candidates.{refusal_of, answer_of}
use Rattle.columns.specs.Layout.{word_count}
use Rattle.columns.specs.Columns.{words_within, is_situation}
use Rattle.words.specs.Words.{side_of, situation_of}
use Rattle.call.specs.declared.SheetFor.{SheetFor}
use Rattle.call.specs.Call.{sheet_answer, sheet_after}
use Rattle.coach.specs.Coach.{sentence_answer, sentence_after}
use Rattle.refusal.specs.declared.Refusal.{Refusal}
use Rattle.referee_c.specs.Entries.{minus, check_number, answer_number, number_for, bytes_for, is_coach_asked, coach_number, coach_bytes, candidates_number}

-- ---- whether words are a situation, by the two tests: their number, and how many are within
abbrev checked : Bool → Bool → ℕ → ℤ
checked long all n = cond long (pos (cond all 0 (n + 1))) (minus 100)

module _ (ws : List ℕ) where
  pub other_length : (length ws ≡ word_count → ⊥) → minus 100 ≡ check_number ws
  unfolding check_number
  other_length h = simp (ne_eqb (length ws) word_count h)

  pub none_outside : length ws ≡ word_count → words_within ws ≡ word_count → pos 0 ≡ check_number ws
  unfolding check_number
  none_outside l w = simp (eq-eqb (length ws) word_count l, eq-eqb (words_within ws) word_count w)

  pub first_outside : length ws ≡ word_count → (words_within ws ≡ word_count → ⊥) → pos (words_within ws + 1) ≡ check_number ws
  unfolding check_number
  first_outside l h = simp (eq-eqb (length ws) word_count l, ne_eqb (words_within ws) word_count h)

  -- 0 is answered for a situation, and for nothing else
  pub situation_checked : is_situation ws ≡ true → check_number ws ≡ pos 0
  unfolding check_number is_situation
  situation_checked = go (eqb (length ws) word_count) (eqb (words_within ws) word_count)
    where
      go : (long all : Bool) → (long && all) ≡ true → checked long all (words_within ws) ≡ pos 0
      go true true e = refl
      go true false e = absurd (true≢false (sym e))
      go false all e = absurd (true≢false (sym e))

  pub checked_situation : check_number ws ≡ pos 0 → is_situation ws ≡ true
  unfolding check_number is_situation
  checked_situation = go (eqb (length ws) word_count) (eqb (words_within ws) word_count)
    where
      go : (long all : Bool) → checked long all (words_within ws) ≡ pos 0 → (long && all) ≡ true
      go true true e = refl
      go true false e = let z : words_within ws + 1 ≡ 0 = cc in absurd (omega arith)
      go false all e = let z : ◌≡◌ {A = ℕ} 0 1 = cc in absurd (omega arith)

-- ---- an entry that is asked something, and answers and leaves by a call; otherwise it answers -100 and changes nothing
module _ (asked : Bool) (answer : Result ℕ Refusal) (after lent : List ℕ) where
  not_asked : asked ≡ false → (minus 100 ≡ cond asked (answer_number answer) (minus 100)) × (lent ≡ cond asked after lent)
  not_asked f = (ap (λ (b : Bool). cond b (answer_number answer) (minus 100)) (sym f), ap (λ (b : Bool). cond b after lent) (sym f))

  is_asked : (a : Result ℕ Refusal) (next : List ℕ) → asked ≡ true → a ≡ answer → next ≡ after → (answer_number a ≡ cond asked (answer_number answer) (minus 100)) × (next ≡ cond asked after lent)
  is_asked a next t e p = (ap answer_number e ∙ ap (λ (b : Bool). cond b (answer_number answer) (minus 100)) (sym t), p ∙ ap (λ (b : Bool). cond b after lent) (sym t))

module _ (to : SheetFor) (ws : List ℕ) (xs ys : List Float) (sheet : List ℕ) where
  -- the words are no situation
  pub no_situation : is_situation ws ≡ false → (minus 100 ≡ number_for to ws xs ys (length sheet)) × (sheet ≡ bytes_for to ws xs ys sheet)
  unfolding number_for bytes_for
  no_situation f = not_asked (is_situation ws) (sheet_answer to (situation_of ws) xs ys (length sheet)) (sheet_after to (situation_of ws) xs ys sheet) sheet f

  -- they are s
  pub a_situation : (s : Situation) (a : Result ℕ Refusal) (next : List ℕ) → is_situation ws ≡ true → s ≡ situation_of ws → a ≡ sheet_answer to s xs ys (length sheet) → next ≡ sheet_after to s xs ys sheet
      → (answer_number a ≡ number_for to ws xs ys (length sheet)) × (next ≡ bytes_for to ws xs ys sheet)
  unfolding number_for bytes_for
  a_situation s a next t same e p =
      is_asked (is_situation ws) (sheet_answer to (situation_of ws) xs ys (length sheet)) (sheet_after to (situation_of ws) xs ys sheet) sheet a next t (e ∙ ap (λ (u : Situation). sheet_answer to u xs ys (length sheet)) same)
      (p ∙ ap (λ (u : Situation). sheet_after to u xs ys sheet) same)

module _ (ws : List ℕ) (xs ys : List Float) (side n : ℕ) (text : List ℕ) where
  -- the words are no situation, or the side is none
  pub no_player : is_coach_asked ws side ≡ false → (minus 100 ≡ coach_number ws xs ys side n (length text)) × (text ≡ coach_bytes ws xs ys side n text)
  unfolding coach_number coach_bytes
  no_player f = not_asked (is_coach_asked ws side) (sentence_answer (situation_of ws) xs ys (side_of side) n (length text)) (sentence_after (situation_of ws) xs ys (side_of side) n text) text f

  -- they are s, and the side is z
  pub a_player : (s : Situation) (z : Side) (a : Result ℕ Refusal) (next : List ℕ) → is_coach_asked ws side ≡ true → s ≡ situation_of ws → z ≡ side_of side → a ≡ sentence_answer s xs ys z n (length text) → next ≡ sentence_after s xs ys z n text
      → (answer_number a ≡ coach_number ws xs ys side n (length text)) × (next ≡ coach_bytes ws xs ys side n text)
  unfolding coach_number coach_bytes
  a_player s z a next t same team e p =
      is_asked (is_coach_asked ws side) (sentence_answer (situation_of ws) xs ys (side_of side) n (length text)) (sentence_after (situation_of ws) xs ys (side_of side) n text) text a next t
      (e ∙ ap₂ (λ (u : Situation) (v : Side). sentence_answer u xs ys v n (length text)) same team)
      (p ∙ ap₂ (λ (u : Situation) (v : Side). sentence_after u xs ys v n text) same team)

module _ (start min max step : Float) (lent n : ℕ) (told : n ≡ length (answer_of start min max step lent)) where
  -- no candidate
  pub none_filled : n ≡ 0 → minus (refusal_of start min max step lent) ≡ candidates_number start min max step lent
  unfolding candidates_number
  none_filled e =
      ap (λ (b : Bool). cond b (minus (refusal_of start min max step lent)) (pos (length (answer_of start min max step lent)))) (sym (eq-eqb (length (answer_of start min max step lent)) 0 (sym told ∙ e)))

  -- some
  pub some_filled : (n ≡ 0 → ⊥) → pos n ≡ candidates_number start min max step lent
  unfolding candidates_number
  some_filled h =
      ap pos told
      ∙ ap (λ (b : Bool). cond b (minus (refusal_of start min max step lent)) (pos (length (answer_of start min max step lent)))) (sym (ne_eqb (length (answer_of start min max step lent)) 0 (λ e. h (told ∙ e))))

-- a list that still has its length holds no more than that at its front
pub front_fits : (l s next : List Float) → next ≡ fronted l s → length next ≡ length s → length l ≤ length s
unfolding fronted
front_fits l s next e k = omega (arith, ap length e, length-append l (drop (length l) s), k)
