-- What is known of an input with which something is wrong: the numbers before its fault are there, and so is the number at it where that is told. Assumes nothing.
use mathlib.Core.Path.{◌≡◌, refl}
use mathlib.Core.Bool.{Bool, true, false, cond}
use mathlib.Core.List.{List}
use Prim.Native.Nat.{ℕ, ◌≤◌, ◌<◌, min}
use native.Mathlib.Omega.{arith}
use borrow.Author.Tests.{ltb-true, ltb-false, leb-false}
use lib.Dec.{leb, ltb}
use lib.ListN.{length, take, get_or}
use Rattle.std.specs.Prelude.{Result, Ok, Err}
use Rattle.columns.specs.Layout.{word_count}
use Rattle.columns.specs.Columns.{words_within}
use Rattle.numbers.specs.declared.Unread.{Unread}
use Rattle.numbers.specs.declared.Unread.TheVariants as Numbers
use Rattle.numbers.specs.Numbers.{numbers_of, reading_of, stored}
use Rattle.numbers.proofs.Count.{read_count}
use Rattle.input.specs.declared.Lists.{Lists}
use Rattle.input.specs.declared.Wrong.{Wrong}
use Rattle.input.specs.declared.Fault.{Fault}
use Rattle.input.specs.declared.Fault.TheVariants.{NotANumber, TooLarge, Outside, LongList, Missing, Extra}
use Rattle.input.specs.Input.{most_places, count_x, count_y, numbers_for, most_numbers, after_counts, after_x, after_words, with_words, laid_out, input_of}
use Rattle.input.proofs.Stored.{stored_at}

-- whether the number at the fault is told
abbrev pub is_told : Fault → Bool
is_told NotANumber = false
is_told TooLarge = false
is_told Outside = true
is_told LongList = true
is_told Missing = false
is_told Extra = false

-- of n numbers, in a buffer that has room for the most
abbrev Reached : ℕ → Result Lists Wrong → Type 0
Reached n (Ok lists) = 0 ≤ n
Reached n (Err w) = (w.place ≤ n) × (is_told w.fault ≡ true → (w.place < n) × (w.place < most_numbers))

-- a number that is not told
untold : (i n : ℕ) → i ≤ n → (false ≡ true → (i < n) × (i < most_numbers))
untold i n h e = let z : ◌≡◌ {A = ℕ} 0 1 = cc in absurd (omega arith)

-- by a test
reached_if : (n : ℕ) (b : Bool) (x y : Result Lists Wrong) → (b ≡ true → Reached n x) → (b ≡ false → Reached n y) → Reached n (cond b x y)
reached_if n true x y s t = s refl
reached_if n false x y s t = t refl

module _ (ns : List ℕ) (n : ℕ) where
  reached_counts : (nx ny : ℕ) → Reached n (after_counts n nx ny)
  unfolding after_counts
  reached_counts nx ny =
      reached_if n (ltb n (numbers_for nx ny)) _ _ (λ e. (omega arith, untold n n (omega arith)))
      (λ e. reached_if n (ltb (numbers_for nx ny) n) _ _ (λ g. let low = ltb-true (numbers_for nx ny) n g in (omega arith, untold (numbers_for nx ny) n (omega arith))) (λ g. omega arith))

  reached_x : (nx : ℕ) → nx ≤ most_places → Reached n (after_x ns n nx)
  unfolding after_x
  reached_x nx few =
      reached_if n (leb n (count_y nx)) _ _ (λ e. (omega arith, untold n n (omega arith)))
      (λ e.
      let low = leb-false n (count_y nx) e in
      reached_if n (ltb most_places (get_or ns (count_y nx) 0)) _ _ (λ g. (omega arith, λ t. (omega arith, omega arith))) (λ g. reached_counts nx (get_or ns (count_y nx) 0)))

  reached_words : Reached n (after_words ns n)
  unfolding after_words
  reached_words =
      reached_if n (leb n count_x) _ _ (λ e. (omega arith, untold n n (omega arith)))
      (λ e.
      let low = leb-false n count_x e in
      reached_if n (ltb most_places (get_or ns count_x 0)) _ _ (λ g. (omega arith, λ t. (omega arith, omega arith))) (λ g. reached_x (get_or ns count_x 0) (ltb-false most_places (get_or ns count_x 0) g)))

  reached_all : (w : ℕ) → Reached n (with_words ns n w)
  unfolding with_words
  reached_all w = reached_if n (ltb w (min n word_count)) _ _ (λ e. let low = ltb-true w (min n word_count) e in (omega arith, λ t. (omega arith, omega arith))) (λ e. reached_words)

reached_read : (text : List ℕ) (g : Result ℕ Unread) → reading_of text ≡ g → Reached (length (numbers_of text)) (laid_out g (numbers_of text))
reached_read text (Ok n) e = rw (read_count text (Ok n) e) (reached_all (numbers_of text) n (words_within (take word_count (numbers_of text))))
reached_read text (Err (Numbers.NotANumber i)) e = let same = read_count text (Err (Numbers.NotANumber i)) e in (omega arith, untold i _ (omega arith))
reached_read text (Err (Numbers.TooLarge i)) e = let same = read_count text (Err (Numbers.TooLarge i)) e in (omega arith, untold i _ (omega arith))

-- the number of earlier x and the number at the fault are among the stored numbers as they are in the text
pub record Known (ms ns : List ℕ) (i : ℕ) (f : Fault) : Type 0 where
  pub count : count_x < i → get_or ms count_x 0 ≡ get_or ns count_x 0
  pub value : is_told f ≡ true → get_or ms i 0 ≡ get_or ns i 0

pub fault_known : (text buffer : List ℕ) (w : Wrong) → length buffer ≡ most_numbers → input_of text ≡ Err w → Known (stored (numbers_of text) buffer) (numbers_of text) w.place w.fault
unfolding input_of
fault_known text buffer w l e =
    let r : Reached (length (numbers_of text)) (Err w) = rw e at (reached_read text (reading_of text) refl) in
    record {
      count = λ h. stored_at (numbers_of text) buffer count_x (omega (arith, r.0)) (omega arith);
      value = λ t. stored_at (numbers_of text) buffer w.place (r.1 t).0 (omega (arith, (r.1 t).1));
    }
