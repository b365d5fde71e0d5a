-- What a loop that fills a list from the front keeps: after i turns the list is `filled f d i`. Assumes nothing.
use mathlib.Core.Path.{◌≡◌, refl, sym, ap, subst, ◌∙◌}
use mathlib.Core.List.{List, [], ◌∷◌, ◌++◌, append-nil}
use Prim.Native.Nat.{ℕ, zero, suc, ◌+◌, ◌<◌, ◌≤◌}
use native.Mathlib.Nat.{not-suc-le-zero, le_of_suc-le-suc, le_antisymm, le_refl}
use native.Mathlib.Numerals.{add-one}
use lib.ListN.{length, set, take, drop, drop_of_length-le, get_or}
use lib.Seq.{length_front, length-take-le, take_at}
use Rattle.lists.specs.Table.{table, filled}

module _ {A : Type 0} where
  pub length_table : (n : ℕ) (f : ℕ → A) → length (table n f) ≡ n
  length_table zero f = refl
  length_table (suc n) f = ap suc (length_table n (λ k. f (suc k)))

  -- the element at k
  pub table_at : (n : ℕ) (f : ℕ → A) (d : A) (k : ℕ) → k < n → get_or (table n f) k d ≡ f k
  table_at zero f d k h = absurd (not-suc-le-zero h)
  table_at (suc n) f d zero h = refl
  table_at (suc n) f d (suc k) h = table_at n (λ i. f (suc i)) d k (le_of_suc-le-suc h)

  -- tables of functions that agree below n are equal
  pub table_same : (n : ℕ) (f g : ℕ → A) → ((k : ℕ) → k < n → f k ≡ g k) → table n f ≡ table n g
  table_same zero f g e = refl
  table_same (suc n) f g e =
      ap (λ (a : A). a ∷ table n (λ k. f (suc k))) (e 0 (Prim.Native.Nat.suc-le-suc Prim.Native.Nat.zero-le))
      ∙ ap (λ (l : List A). g 0 ∷ l) (table_same n (λ k. f (suc k)) (λ k. g (suc k)) (λ k h. e (suc k) (Prim.Native.Nat.suc-le-suc h)))

  filled_suc : (f : ℕ → A) (d : List A) (n : ℕ) → n < length d → set (filled f d n) n (f n) ≡ filled f d (suc n)
  filled_suc f [] n l = absurd (not-suc-le-zero l)
  filled_suc f (x ∷ d) zero l = refl
  filled_suc f (x ∷ d) (suc n) l = ap (λ (t : List A). f 0 ∷ t) (filled_suc (λ k. f (suc k)) d n (le_of_suc-le-suc l))

  filled_more : (f : ℕ → A) (d : List A) (n : ℕ) → n < length d → set (filled f d n) n (f n) ≡ filled f d (n + 1)
  filled_more f d n l = subst (λ (k : ℕ). set (filled f d n) n (f n) ≡ filled f d k) (sym (add-one n)) (filled_suc f d n l)

  filled_all : (f : ℕ → A) (d : List A) (n : ℕ) → length d ≤ n → filled f d n ≡ table n f
  filled_all f d n l = ap (λ (t : List A). table n f ++ t) (drop_of_length-le d l) ∙ append-nil (table n f)

  -- a turn of the loop stores v, which is f i
  pub turn : (f : ℕ → A) (d out : List A) (i : ℕ) (v : A) → i < length d → out ≡ filled f d i → v ≡ f i → set out i v ≡ filled f d (i + 1)
  turn f d out i v l e p = ap (λ (t : List A). set t i v) e ∙ ap (λ (a : A). set (filled f d i) i a) p ∙ filled_more f d i l

  -- the loop's end, where the list is full
  pub done : (f : ℕ → A) (d out : List A) (i n : ℕ) → length d ≡ n → i ≤ n → n ≤ i → out ≡ filled f d i → out ≡ table n f
  done f d out i n l a b e =
      let same : i ≡ n = le_antisymm a b in
      let far : length d ≤ n = subst (λ (k : ℕ). k ≤ n) (sym l) (le_refl n) in
      e ∙ ap (filled f d) same ∙ filled_all f d n far

  -- a list that is filled so far has the length that it had
  pub length_filled : (f : ℕ → A) (d : List A) (n : ℕ) → n ≤ length d → length (filled f d n) ≡ length d
  length_filled f d n l = length_front d (table n f) n (length_table n f ∙ sym (length-take-le n d l))

  -- the filled front of such a list is the table
  pub front : (f : ℕ → A) (d out : List A) (n : ℕ) → out ≡ filled f d n → take n out ≡ table n f
  front f d out n e = ap (take n) e ∙ take_at (table n f) (drop n d) n (length_table n f)
