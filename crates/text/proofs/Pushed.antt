-- Pieces after each other. Assumes nothing.
use mathlib.Core.Path.{◌≡◌, refl, sym, ap, ◌∙◌}
use mathlib.Core.List.{List, [], ◌∷◌, ◌++◌, append_assoc, append-nil}
use Prim.Native.Nat.{ℕ, zero, suc, ◌+◌, ◌-◌, ◌≤◌}
use native.Mathlib.Nat.{min-le_left, min-le_right}
use native.Mathlib.Omega.{arith}
use borrow.Rule.Slice.PartMut.{put_mid}
use lib.ListN.{length, take}
use lib.Seq.{take_all, take-append-add}
use Rattle.std.specs.Prelude.{min}
use Rattle.std.specs.Ordering.{ord_min, nat_cmp}
use Rattle.std.proofs.Common.{rules}
use Rattle.std.proofs.lemmas.List.{length-take, length-take-le, take_min}
use Rattle.std.proofs.lemmas.Slice.{take-put_mid}
use Rattle.text.specs.Pushed.{pushed}

-- what was cut off has no room behind it
cut_then : (n : ℕ) (l m : List ℕ) → take n (take n l ++ m) ≡ take n (l ++ m)
cut_then zero l m = refl
cut_then (suc n) [] m = refl
cut_then (suc n) (x ∷ l) m = ap (λ (t : List ℕ). x ∷ t) (cut_then n l m)

-- two pieces are one
pub pushed_then : (n : ℕ) (text a b : List ℕ) → pushed n (pushed n text a) b ≡ pushed n text (a ++ b)
unfolding pushed
pushed_then n text a b = cut_then n (text ++ a) b ∙ ap (take n) (append_assoc text a b)

-- a piece after a text that is known
pub first_piece : (n : ℕ) (a : List ℕ) {s cur next : List ℕ} → cur ≡ s → next ≡ pushed n cur a → next ≡ pushed n s a
first_piece n a e f = f ∙ ap (λ (t : List ℕ). pushed n t a) e

-- a piece after a piece
pub next_piece : (n : ℕ) (s a b : List ℕ) {cur next : List ℕ} → cur ≡ pushed n s a → next ≡ pushed n cur b → next ≡ pushed n s (a ++ b)
next_piece n s a b e f = first_piece n b e f ∙ pushed_then n s a b

-- where there is room
pub pushed_whole : (n : ℕ) (piece : List ℕ) → length piece ≤ n → pushed n [] piece ≡ piece
unfolding pushed
pushed_whole n piece h = take_all n piece h

-- no piece
pub pushed_none : (n : ℕ) (text : List ℕ) → length text ≤ n → text ≡ pushed n text []
unfolding pushed
pushed_none n text h = sym (take_all n text h) ∙ ap (take n) (sym (append-nil text))

-- there is no more than there is room for
pub pushed_long : (n : ℕ) (text piece : List ℕ) → length (pushed n text piece) ≤ n
unfolding pushed
pushed_long n text piece = omega (arith, length-take n (text ++ piece), min-le_left n (length (text ++ piece)))

-- the lesser of two numbers
lesser : (a b : ℕ) → ord_min nat_cmp a b ≡ min a b
lesser a b = search rules

-- what a copy of the piece's front, as long as there is room for, leaves
pub pushed_in : (n at m k : ℕ) (xs piece : List ℕ) → length xs ≡ n → at ≤ n → m ≡ ord_min nat_cmp (n - at) (length piece) → take (at + m) (put_mid at k xs (take m piece)) ≡ pushed n (take at xs) piece
unfolding pushed
pushed_in n at m k xs piece long low given =
    let e : m ≡ min (n - at) (length piece) = given ∙ lesser (n - at) (length piece) in
    let text : List ℕ = take at xs in
    let size : length text ≡ at = length-take-le at xs (omega arith) in
    let all : length (take m piece) ≡ m = length-take-le m piece (omega (arith, e, min-le_right (n - at) (length piece))) in
    let far : length text + (n - at) ≡ n = omega arith in
    take-put_mid at k xs (take m piece) (at + m) (omega arith) (omega arith)
    ∙ ap (λ (t : List ℕ). text ++ t) (ap (λ (j : ℕ). take j piece) e ∙ take_min (n - at) piece)
    ∙ sym (take-append-add text piece (n - at))
    ∙ ap (λ (j : ℕ). take j (text ++ piece)) far
