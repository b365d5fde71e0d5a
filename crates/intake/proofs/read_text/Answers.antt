use Rattle.std.proofs.Common.{rules, ◌≡◌, ℕ, ◌+◌, ◌≤◌, List, ◌++◌, length, take, drop, sym, ap, refl, ◌∙◌, subst, drop_at, length-take-le}
use lib.Seq.{take-add, take-append-le}
use borrow.Rule.Slice.PartMut.{put_mid, post_of, take_put}
use Rattle.std.specs.Io.KnownBytes.{Consumes}
use Rattle.std.proofs.KnownBytes.{Consumes-trans}
use Rattle.intake.proofs.read_text.Goals as goal

-- what stands before a place, and the bytes read from there on
front : (at room n : ℕ) (xs ys : List ℕ) (end : ℕ) → at ≤ length xs → n ≤ length ys → end ≡ at + n → take end (put_mid at room xs ys) ≡ take at xs ++ take n ys
front at room n xs ys end within few same =
    let rest = post_of at room xs in
    let all = put_mid at room xs ys in
    ap (λ k. take k all) same
    ∙ take-add at n all
    ∙ ap (λ l. l ++ take n (drop at all)) (take_put at room xs ys within)
    ∙ ap (λ l. take at xs ++ l) (ap (take n) (drop_at (take at xs) (ys ++ rest) at (length-take-le at xs within)) ∙ take-append-le n ys rest few)

pub loop-size-preserved : goal.loop-size-preserved
loop-size-preserved g c =
    let read = c.in_ok-more.ensures in
    let bytes = front c.loop-size.size _ c.in_ok-more.more _ _ (c.loop-size.size + c.in_ok-more.more) c.loop-size.invariant.1 read.bound.0 refl in
    (search rules, search rules, subst (Consumes _ _) (sym bytes) (Consumes-trans _ _ _ _ _ c.loop-size.invariant.2 read.bytes.0))
