-- Lists written over a list, one after the other. Assumes nothing.
use mathlib.Core.Path.{◌≡◌, refl, sym, ap, ◌∙◌}
use mathlib.Core.List.{List, [], ◌∷◌, ◌++◌, append_assoc}
use Prim.Native.Nat.{ℕ, ◌+◌, ◌-◌, ◌≤◌, ◌<◌}
use native.Mathlib.Nat.{add_assoc, zero-add}
use native.Mathlib.Numerals.{add-one}
use native.Mathlib.Omega.{arith}
use lib.ListN.{length, take, drop, set, length-append, length-drop, take-append-drop}
use lib.Seq.{take_at, drop-append-add, drop-drop, set_split, length-take-le}
use Rattle.lists.specs.Put.{fronted}
use Rattle.lists.proofs.Part.{part_back}
use Rattle.lines.specs.Over.{over}

module _ {A : Type 0} where
  -- from the first place on
  pub over_front : (l s : List A) → over 0 l s ≡ fronted l s
  unfolding over fronted
  over_front l s = ap (λ (k : ℕ). l ++ drop k s) (zero-add (length l))

  -- where the next list begins
  length_before : (at : ℕ) (l s : List A) → at ≤ length s → length (take at s ++ l) ≡ at + length l
  length_before at l s h = length-append (take at s) l ∙ ap (λ (k : ℕ). k + length l) (length-take-le at s h)

  -- the next list begins where the last ended
  pub over_then : (at n : ℕ) (a b s : List A) → n ≡ at + length a → n ≤ length s → over n b (over at a s) ≡ over at (a ++ b) s
  unfolding over
  over_then at n a b s e h =
      let front : List A = take at s ++ a in
      let low : at ≤ length s = omega arith in
      let far : length front ≡ n = length_before at a s low ∙ sym e in
      let back : List A = drop (at + length a) s in
      let split : take at s ++ (a ++ back) ≡ front ++ back = sym (append_assoc (take at s) a back) in
      ap (λ (t : List A). take n t ++ (b ++ drop (n + length b) t)) split
      ∙ ap (λ (t : List A). t ++ (b ++ drop (n + length b) (front ++ back))) (take_at front back n far)
      ∙ ap (λ (k : ℕ). front ++ (b ++ drop (k + length b) (front ++ back))) (sym far)
      ∙ ap (λ (t : List A). front ++ (b ++ t)) (drop-append-add front back (length b) ∙ drop-drop (length b) (at + length a) s)
      ∙ append_assoc (take at s) a (b ++ drop (at + length a + length b) s)
      ∙ ap (λ (t : List A). take at s ++ t) (sym (append_assoc a b (drop (at + length a + length b) s)))
      ∙ ap (λ (k : ℕ). take at s ++ ((a ++ b) ++ drop k s)) (add_assoc at (length a) (length b) ∙ ap (λ (k : ℕ). at + k) (sym (length-append a b)))

  -- a store
  pub over_one : (n : ℕ) (x : A) (s : List A) → n < length s → set s n x ≡ over n (x ∷ []) s
  unfolding over
  over_one n x s h = set_split s n x h ∙ ap (λ (k : ℕ). take n s ++ (x ∷ drop k s)) (sym (add-one n))

  -- what the caller has after it lent the part from a place on to a writer that put l at the part's front
  pub over_part : (xs l ys : List A) (at : ℕ) → ys ≡ fronted l (take (length xs - at) (drop at xs)) → take at xs ++ (ys ++ drop (length xs - at) (drop at xs)) ≡ over at l xs
  unfolding over fronted
  over_part xs l ys at e = part_back xs l ys at (length l) e

  -- the list keeps its length
  pub over_long : (at : ℕ) (l s : List A) → at + length l ≤ length s → length (over at l s) ≡ length s
  unfolding over
  over_long at l s h = omega (arith, length_before at (l ++ drop (at + length l) s) s (omega arith), length-append (take at s) (l ++ drop (at + length l) s), length-append l (drop (at + length l) s), length-drop (at + length l) s)

  -- nothing is written
  pub over_none : (at : ℕ) (s : List A) → s ≡ over at [] s
  unfolding over
  over_none at s = sym (take-append-drop at s) ∙ let same : at ≡ at + 0 = omega arith in ap (λ (k : ℕ). take at s ++ drop k s) same

  -- ---- a text written piece by piece
  -- the list cur is s with the text written over it from the place at on, and the text ends at n
  pub record Stage (at : ℕ) (s text cur : List A) (n : ℕ) : Type 0 where
    pub written : cur ≡ over at text s
    pub end : n ≡ at + length text
    pub long : length cur ≡ length s

  -- before the first piece
  pub stage_none : (at : ℕ) (s : List A) → Stage at s [] s at
  stage_none at s = record { written = over_none at s; end = omega arith; long = refl }

  -- one more piece
  pub stage_next : {at n : ℕ} {s text cur : List A} (piece next : List A) (m : ℕ) → Stage at s text cur n → n ≤ length s → next ≡ over n piece cur → m ≡ n + length piece → length next ≡ length cur → Stage at s (text ++ piece) next m
  stage_next {at} {n} {s} {text} {cur} piece next m e room p q l =
      record {
        written = p ∙ ap (over n piece) e.written ∙ over_then at n text piece s e.end room;
        end = omega (arith, q, e.end, length-append text piece);
        long = l ∙ e.long;
      }
