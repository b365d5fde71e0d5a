-- A text written piece by piece at the front of lent bytes. Assumes nothing.
use mathlib.Core.Path.{◌≡◌, sym, ap, ◌∙◌}
use mathlib.Core.List.{List, ◌++◌}
use Prim.Native.Nat.{ℕ, ◌-◌, ◌≤◌, ◌<◌}
use native.Mathlib.Nat.{zero-add}
use borrow.Author.Tests.{lt-ltb, le-ltb}
use lib.ListN.{length, take, drop}
use lib.Seq.{take_at, take-length}
use Rattle.std.specs.Prelude.{None, Some}
use Rattle.lists.specs.Put.{fronted, fronted_into}
use Rattle.lists.proofs.Fronted.{into_short, into_fits}
use Rattle.lines.specs.Over.{over}
use Rattle.lines.proofs.Over.{over_front, over_part, Stage}
use Rattle.sentences.specs.Sentences.{written}

-- what a copy into the part from a place on leaves
pub piece_over : (xs l ys : List ℕ) (at : ℕ) → ys ≡ take (length l) l ++ drop (length l) (take (length xs - at) (drop at xs))
    → take at xs ++ (ys ++ drop (length xs - at) (drop at xs)) ≡ over at l xs
unfolding fronted
piece_over xs l ys at e = over_part xs l ys at (e ∙ ap (λ (t : List ℕ). t ++ drop (length l) (take (length xs - at) (drop at xs))) (take-length l))

-- where there is no room
pub text_short : (text s : List ℕ) → length s < length text → (None ≡ written text s) × (s ≡ fronted_into text s)
unfolding written
text_short text s h = (simp (lt-ltb (length s) (length text) h), sym (into_short text s h))

-- where there is
pub written_length : (text s : List ℕ) → length text ≤ length s → written text s ≡ Some (length text)
unfolding written
written_length text s h = simp (le-ltb (length s) (length text) h)

-- where there is, and the text is written
pub text_fits : (text s cur : List ℕ) (n : ℕ) → length text ≤ length s → Stage 0 s text cur n → (Some n ≡ written text s) × (cur ≡ fronted_into text s)
text_fits text s cur n h e = (ap Some (e.end ∙ zero-add (length text)) ∙ sym (written_length text s h), e.written ∙ over_front text s ∙ sym (into_fits text s h))

-- where there is, and the text was written at the front of a list and copied from there
pub text_stored : (text z cur s part : List ℕ) (n : ℕ) → length text ≤ length s → Stage 0 z text cur n → part ≡ take n cur → (Some n ≡ written text s) × (part ++ drop n s ≡ fronted_into text s)
unfolding fronted
text_stored text z cur s part n h e p =
    let far : n ≡ length text = e.end ∙ zero-add (length text) in
    let front : take n cur ≡ text = ap (take n) (e.written ∙ over_front text z) ∙ take_at text (drop (length text) z) n (sym far) in
    (ap Some far ∙ sym (written_length text s h), ap (λ (t : List ℕ). t ++ drop n s) (p ∙ front) ∙ ap (λ (k : ℕ). text ++ drop k s) far ∙ sym (into_fits text s h))
