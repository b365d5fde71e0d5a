-- What the tests of a call's words come to. Assumes nothing.
use mathlib.Core.Path.{◌≡◌, refl, sym, ap, ap₂, ◌∙◌}
use mathlib.Core.Bool.{Bool, true, false, ◌&&◌, cond, and-true, and-false, and_assoc}
use mathlib.Core.List.{List, [], ◌∷◌}
use Prim.Native.Nat.{ℕ, zero, suc, ◌≤◌, ◌<◌}
use native.Mathlib.Nat.{le_of_suc-le-suc, not-suc-le-zero}
use lib.Dec.{eqb}
use borrow.Author.Tests.{eq-eqb, ne_eqb, eqb-true, eqb-false}
use native.Mathlib.Omega.{arith}
use Rattle.lists.proofs.Bools.{by_test}
use lib.ListN.{length, get_or}
use lib.Pointwise.{pointwise}
use Rattle.lists.specs.Every.{every_to}
use Rattle.arguments.specs.declared.Command.{Command}
use Rattle.arguments.specs.declared.Command.TheVariants.{Sheet}
use Rattle.arguments.specs.declared.Source.{Source}
use Rattle.arguments.specs.declared.Source.TheVariants.{StandardInput, SecondWord}
use Rattle.arguments.specs.Arguments.{is_word, dash, command_of, source_of, run, by_one, by_two, asked_of}
use Rattle.std.specs.Prelude.{Option, None, Some}

-- ---- two words
-- a test of the places below n, the first one by itself
every_front : (n : ℕ) (P : ℕ → Bool) → every_to (suc n) P ≡ (P 0 && every_to n (λ k. P (suc k)))
unfolding every_to
every_front zero P = sym (and-true (P 0))
every_front (suc n) P = ap (λ (b : Bool). b && P (suc n)) (every_front n P) ∙ and_assoc (P 0) (every_to n (λ k. P (suc k))) (P (suc n))

eqb_suc : (a b : ℕ) → eqb a b ≡ eqb (suc a) (suc b)
eqb_suc a b =
    by_test (eqb a b) (λ e. e ∙ sym (eq-eqb (suc a) (suc b) (ap suc (eqb-true a b e))))
    (λ e. e ∙ sym (ne_eqb (suc a) (suc b) (λ (s : suc a ≡ suc b). eqb-false a b e (omega (arith, s)))))

swap : (a b c : Bool) → (a && (b && c)) ≡ (b && (a && c))
swap true b c = refl
swap false b c = sym (and-false b)

-- byte by byte, as the library compares, and by length and places, as the definition does
pub word_compared : (word name : List ℕ) → pointwise eqb word name ≡ is_word word name
unfolding is_word every_to
word_compared [] [] = refl
word_compared [] (y ∷ ys) = ap (λ (b : Bool). b && true) (sym (ne_eqb 0 (suc (length ys)) (λ (e : 0 ≡ suc (length ys)). omega (arith, e))))
word_compared (x ∷ xs) [] =
    ap (λ (b : Bool). b && every_to (suc (length xs)) (λ i. eqb (get_or (x ∷ xs) i 0) (get_or {A = ℕ} [] i 0))) (sym (ne_eqb (suc (length xs)) 0 (λ (e : suc (length xs) ≡ 0). omega (arith, e))))
word_compared (x ∷ xs) (y ∷ ys) =
    ap (λ (b : Bool). eqb x y && b) (word_compared xs ys)
    ∙ swap (eqb x y) (eqb (length xs) (length ys)) (every_to (length xs) (λ i. eqb (get_or xs i 0) (get_or ys i 0)))
    ∙ ap₂ (λ (a b : Bool). a && b) (eqb_suc (length xs) (length ys)) (sym (every_front (length xs) (λ i. eqb (get_or (x ∷ xs) i 0) (get_or (y ∷ ys) i 0))))

-- ---- a word
module _ (word : List ℕ) where
  -- it is this name, or another: what is then told
  pub this_name : (name : List ℕ) (b : Bool) (x y : Option Command) → b ≡ is_word word name → b ≡ true → x ≡ cond (is_word word name) x y
  this_name name b x y e h = ap (λ (t : Bool). cond t x y) (sym h ∙ e)

  pub other_name : (name : List ℕ) (b : Bool) (x y r : Option Command) → b ≡ is_word word name → b ≡ false → r ≡ y → r ≡ cond (is_word word name) x y
  other_name name b x y r e h p = p ∙ ap (λ (t : Bool). cond t x y) (sym h ∙ e)

  pub from_file : (file : Source) (b t : Bool) → b ≡ is_word word dash → b ≡ t → cond t StandardInput file ≡ source_of word file
  unfolding source_of
  from_file file b t e f = ap (λ (d : Bool). cond d StandardInput file) (sym f ∙ e)

-- ---- how many words
module _ (first second : List ℕ) where
  pub no_word : (n : ℕ) → n ≡ 0 → run Sheet StandardInput ≡ asked_of n first second
  unfolding asked_of
  no_word n e = ap (λ (k : ℕ). asked_of k first second) (sym e)

  pub one_word : (n : ℕ) (c : Option Command) → n ≡ 1 → c ≡ command_of first → by_one c first ≡ asked_of n first second
  unfolding asked_of
  one_word n c e f = ap (λ (d : Option Command). by_one d first) f ∙ ap (λ (k : ℕ). asked_of k first second) (sym e)

  pub two_words : (n : ℕ) (c : Option Command) → (n ≡ 0 → ⊥) → n ≤ 2 → (n ≡ 1 → ⊥) → c ≡ command_of first → by_two c second ≡ asked_of n first second
  unfolding asked_of
  two_words zero c h m k f = absurd (h refl)
  two_words (suc zero) c h m k f = absurd (k refl)
  two_words (suc (suc zero)) c h m k f = ap (λ (d : Option Command). by_two d second) f
  two_words (suc (suc (suc n))) c h m k f = absurd (not-suc-le-zero (le_of_suc-le-suc (le_of_suc-le-suc m)))

  pub two_run : (n : ℕ) (c : Command) (s : Source) → (n ≡ 0 → ⊥) → n ≤ 2 → (n ≡ 1 → ⊥) → Some c ≡ command_of first → s ≡ source_of second SecondWord → run c s ≡ asked_of n first second
  two_run n c s h m k f e = ap (run c) e ∙ two_words n (Some c) h m k f

  pub more_words : (n : ℕ) → 2 < n → None ≡ asked_of n first second
  unfolding asked_of
  more_words zero h = absurd (not-suc-le-zero h)
  more_words (suc zero) h = absurd (not-suc-le-zero (le_of_suc-le-suc h))
  more_words (suc (suc zero)) h = absurd (not-suc-le-zero (le_of_suc-le-suc (le_of_suc-le-suc h)))
  more_words (suc (suc (suc n))) h = refl
