-- A text at the front of lent bytes that may be too few for it. Assumes nothing.
use mathlib.Core.Path.{◌≡◌, sym, ap, ◌∙◌}
use mathlib.Core.List.{List, [], ◌++◌}
use Prim.Native.Nat.{ℕ, ◌≤◌, ◌<◌}
use borrow.Author.Tests.{lt-ltb, le-ltb}
use lib.ListN.{length, take, drop}
use lib.Seq.{take_at}
use Rattle.lists.specs.Put.{fronted}
use Rattle.lists.proofs.Fronted.{into_short, into_fits}
use Rattle.text.specs.Pushed.{pushed}
use Rattle.text.proofs.Pushed.{pushed_whole}
use Rattle.replies.specs.Replies.{line_in, written_in}

-- where there is no room
pub text_short : (text s : List ℕ) → length s < length text → (0 ≡ written_in text s) × (s ≡ line_in text s)
unfolding written_in
text_short text s h = (simp (lt-ltb (length s) (length text) h), sym (into_short text s h))

-- where there is
written_whole : (text s : List ℕ) → length text ≤ length s → written_in text s ≡ length text
unfolding written_in
written_whole text s h = simp (le-ltb (length s) (length text) h)

pub text_fits : (text s cur : List ℕ) → length text ≤ length s → cur ≡ text → (length text ≡ written_in text s) × (cur ++ drop (length text) s ≡ line_in text s)
unfolding fronted
text_fits text s cur h e = (sym (written_whole text s h), ap (λ (t : List ℕ). t ++ drop (length text) s) e ∙ sym (into_fits text s h))

-- it is then the front of the bytes
pub text_taken : (text s cur : List ℕ) (n : ℕ) → length text ≤ length s → n ≡ written_in text s → cur ≡ line_in text s → take n cur ≡ text
unfolding fronted
text_taken text s cur n h e f =
    ap (take n) (f ∙ into_fits text s h) ∙ take_at text (drop (length text) s) n (sym (e ∙ written_whole text s h))

-- a line that was made by itself, and then written
pub line_written : (n : ℕ) {bytes : List ℕ} (same out next : List ℕ) (r : ℕ) → bytes ≡ pushed n [] same → length same ≤ n → r ≡ written_in bytes out → next ≡ line_in bytes out → (r ≡ written_in same out) × (next ≡ line_in same out)
line_written n same out next r e h a b =
    let whole = e ∙ pushed_whole n same h in
    (a ∙ ap (λ (t : List ℕ). written_in t out) whole, b ∙ ap (λ (t : List ℕ). line_in t out) whole)
