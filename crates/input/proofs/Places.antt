-- What is known of an input that is read, for a caller that takes its parts. Assumes nothing.
use mathlib.Core.Path.{◌≡◌, refl, sym, ap, ◌∙◌}
use mathlib.Core.Bool.{Bool, true, false, cond}
use mathlib.Core.List.{List}
use Prim.Native.Nat.{ℕ, ◌≤◌, min}
use native.Mathlib.Omega.{arith}
use borrow.Author.Tests.{ltb-false}
use lib.Dec.{leb, ltb}
use lib.ListN.{length, take, get_or}
use Rattle.std.specs.Prelude.{Result, Ok, Err}
use Rattle.columns.specs.Layout.{word_count, columns}
use Rattle.columns.specs.Columns.{in_column, front_within, words_within}
use Rattle.columns.proofs.Front.{front_le}
use Rattle.columns.proofs.Laid.{columns_count}
use Rattle.numbers.specs.declared.Unread.{Unread}
use Rattle.numbers.specs.declared.Unread.TheVariants as Numbers
use Rattle.numbers.specs.Numbers.{numbers_of, reading_of}
use Rattle.numbers.proofs.Count.{read_count}
use Rattle.input.specs.declared.Lists.{Lists}
use Rattle.input.specs.declared.Wrong.{Wrong}
use Rattle.input.specs.Input.{lists_of, most_places, count_x, count_y, numbers_for, after_counts, after_x, after_words, with_words, laid_out, input_of}

-- the numbers ns are words within their columns, nx with nx patterns and ny with ny patterns
pub record Parts (ns : List ℕ) (nx ny : ℕ) : Type 0 where
  pub words_within_holds : words_within (take word_count ns) ≡ word_count
  pub count_x_holds : get_or ns count_x 0 ≡ nx
  pub count_y_holds : get_or ns (count_y nx) 0 ≡ ny
  pub few_x : nx ≤ most_places
  pub few_y : ny ≤ most_places
  pub whole : length ns ≡ numbers_for nx ny

-- ---- a test that sets an input aside did not hold, and what comes after it is the input
fault_left : (b : Bool) (w : Wrong) (other : Result Lists Wrong) (l : Lists) → cond b (Err w) other ≡ Ok l → (b ≡ false) × (other ≡ Ok l)
fault_left true w other l e = let z : ◌≡◌ {A = ℕ} 0 1 = cc in absurd (omega arith)
fault_left false w other l e = (refl, e)

module _ (n : ℕ) (l : Lists) where
  of_counts : (a b : ℕ) → after_counts n a b ≡ Ok l → (a ≡ l.xs) × (b ≡ l.ys) × (n ≡ numbers_for l.xs l.ys)
  unfolding after_counts
  of_counts a b e =
      let one = fault_left (ltb n (numbers_for a b)) _ _ l e in
      let two = fault_left (ltb (numbers_for a b) n) _ _ l one.1 in
      let read : lists_of a b ≡ Ok l = two.1 in
      let same : ◌≡◌ {A = Lists} (record { xs = a; ys = b }) l = cc in
      let x : a ≡ l.xs = ap (λ (k : Lists). k.xs) same in
      let y : b ≡ l.ys = ap (λ (k : Lists). k.ys) same in
      (x, y, omega (arith, ltb-false n (numbers_for a b) one.0, ltb-false (numbers_for a b) n two.0))

  of_x : (ns : List ℕ) (a : ℕ) → after_x ns n a ≡ Ok l → (a ≡ l.xs) × (get_or ns (count_y l.xs) 0 ≡ l.ys) × (l.ys ≤ most_places) × (n ≡ numbers_for l.xs l.ys)
  unfolding after_x
  of_x ns a e =
      let b = get_or ns (count_y a) 0 in
      let one = fault_left (leb n (count_y a)) _ _ l e in
      let two = fault_left (ltb most_places b) _ _ l one.1 in
      let known = of_counts a b two.1 in
      let y : get_or ns (count_y l.xs) 0 ≡ l.ys = ap (λ (k : ℕ). get_or ns (count_y k) 0) (sym known.0) ∙ known.1 in
      (known.0, y, omega (arith, ltb-false most_places b two.0), known.2)

  of_words : (ns : List ℕ) → after_words ns n ≡ Ok l → (get_or ns count_x 0 ≡ l.xs) × (l.xs ≤ most_places) × (get_or ns (count_y l.xs) 0 ≡ l.ys) × (l.ys ≤ most_places) × (n ≡ numbers_for l.xs l.ys)
  unfolding after_words
  of_words ns e =
      let a = get_or ns count_x 0 in
      let one = fault_left (leb n count_x) _ _ l e in
      let two = fault_left (ltb most_places a) _ _ l one.1 in
      let known = of_x ns a two.1 in
      (known.0, omega (arith, ltb-false most_places a two.0), known.1, known.2, known.3)

most_within : (ws : List ℕ) → words_within ws ≤ word_count
unfolding front_within words_within
most_within ws = let most = front_le (min (length ws) (length columns)) (in_column columns ws) in omega (arith, most, columns_count)

of_numbers : (ns : List ℕ) (n : ℕ) (l : Lists) → length ns ≡ n → with_words ns n (words_within (take word_count ns)) ≡ Ok l → Parts ns l.xs l.ys
unfolding with_words
of_numbers ns n l long e =
    let w = words_within (take word_count ns) in
    let one = fault_left (ltb w (min n word_count)) _ _ l e in
    let known = of_words n l ns one.1 in
    record {
      words_within_holds = omega (arith, ltb-false w (min n word_count) one.0, most_within (take word_count ns));
      count_x_holds = known.0;
      count_y_holds = known.2;
      few_x = known.1;
      few_y = known.3;
      whole = omega arith;
    }

pub parts : (text : List ℕ) (l : Lists) → input_of text ≡ Ok l → Parts (numbers_of text) l.xs l.ys
unfolding input_of
parts text l e = go (reading_of text) refl e
  where
    go : (g : Result ℕ Unread) → reading_of text ≡ g → laid_out g (numbers_of text) ≡ Ok l → Parts (numbers_of text) l.xs l.ys
    go (Ok n) q e = of_numbers (numbers_of text) n l (read_count text (Ok n) q) e
    go (Err (Numbers.NotANumber k)) q e = let z : ◌≡◌ {A = ℕ} 0 1 = cc in absurd (omega arith)
    go (Err (Numbers.TooLarge k)) q e = let z : ◌≡◌ {A = ℕ} 0 1 = cc in absurd (omega arith)
