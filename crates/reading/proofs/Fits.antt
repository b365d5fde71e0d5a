-- The walk accepts exactly the lists of items in order whose blocks are all accepted by themselves. Assumes nothing.
use mathlib.Core.Path.{◌≡◌, refl, sym, ap, ◌∙◌}
use mathlib.Core.Bool.{Bool, true, ◌&&◌, cond}
use mathlib.Core.List.{List, [], ◌∷◌}
use mathlib.Core.Logic.{◌⊎◌, inl, inr}
use Prim.Native.Nat.{ℕ, ◌<◌, ◌^◌}
use native.Mathlib.Nat.{eq-or-lt_of_le}
use native.Mathlib.Omega.{arith}
use borrow.Author.Tests.{leb-true, leb-false, eq-eqb, ne_eqb}
use lib.Bits.{bit_or}
use lib.Dec.{eqb, leb}
use Rattle.lists.proofs.Bools.{both, both_true, by_test}
use Rattle.lines.specs.declared.Row.{Row}
use Rattle.items.specs.Items.{is_item}
use Rattle.reading.specs.Rules.{only, every, each_next, not_before}
use Rattle.reading.specs.Walk.{block, begins, continues, ends, linked, seen_after, fits_after, accepts}
use Rattle.reading.proofs.Only.{only_yes, only_no, every_split, every_join, next_split, next_join, next_imply, up_by, none_below}
use Rattle.reading.proofs.Blocks.{block_up}
use Rattle.reading.proofs.Runs.{first_seen, more_seen, run_from, run_end, run_next, runs, in_block}

-- ---- block by block
-- the lines after l are items in order, the rest of l's block can follow it, and the later blocks are accepted
pub record Fits (l : Row) (seen : ℕ) (rs : List Row) : Type 0 where
  pub items : every is_item rs ≡ true
  pub order : each_next not_before l rs ≡ true
  pub first : run_from l seen (in_block (block l) rs) ≡ true
  pub later : (b : ℕ) → block l < b → runs (in_block b rs) ≡ true

-- ---- a line on, in the same block or in a later one
same_linked : (l : Row) (seen : ℕ) (r : Row) → block l ≡ block r → linked l seen r ≡ continues l seen r
unfolding linked
same_linked l seen r e = ap (λ (b : Bool). cond b (continues l seen r) (ends l && begins r)) (eq-eqb (block l) (block r) e)

same_seen : (l : Row) (seen : ℕ) (r : Row) → block l ≡ block r → seen_after l seen r ≡ more_seen seen r
unfolding seen_after
same_seen l seen r e = ap (λ (b : Bool). cond (eqb r.kind 2) (cond b (bit_or seen (2 ^ r.number)) (2 ^ r.number)) 0) (eq-eqb (block l) (block r) e)

later_linked : (l : Row) (seen : ℕ) (r : Row) → block l < block r → linked l seen r ≡ (ends l && begins r)
unfolding linked
later_linked l seen r h = ap (λ (b : Bool). cond b (continues l seen r) (ends l && begins r)) (ne_eqb (block l) (block r) (λ e. omega arith))

later_seen : (l : Row) (seen : ℕ) (r : Row) → block l < block r → seen_after l seen r ≡ first_seen r
unfolding seen_after
later_seen l seen r h = ap (λ (b : Bool). cond (eqb r.kind 2) (cond b (bit_or seen (2 ^ r.number)) (2 ^ r.number)) 0) (ne_eqb (block l) (block r) (λ e. omega arith))

-- the lines of the block of r, from r on
in_here : (r : Row) (rs : List Row) → in_block (block r) (r ∷ rs) ≡ r ∷ in_block (block r) rs
in_here r rs = only_yes (λ t. eqb (block t) (block r)) r rs (eq-eqb (block r) (block r) refl)

-- of a later block
in_later : (b : ℕ) (r : Row) (rs : List Row) → block r < b → in_block b (r ∷ rs) ≡ in_block b rs
in_later b r rs h = only_no (λ t. eqb (block t) b) r rs (ne_eqb (block r) b (λ e. omega arith))

-- of an earlier one there are none
in_earlier : (b : ℕ) (r : Row) (rs : List Row) → each_next not_before r rs ≡ true → b < block r → in_block b (r ∷ rs) ≡ []
in_earlier b r rs e h = none_below block b r rs (next_imply not_before (up_by block) block_up r rs e) h

-- what a list's blocks are to the line before it
module _ (l : Row) (seen : ℕ) (r : Row) (rs : List Row) where
  abbrev rest : Bool
  rest = run_from r (seen_after l seen r) (in_block (block r) rs)

  same_first : block l ≡ block r → run_from l seen (in_block (block l) (r ∷ rs)) ≡ (continues l seen r && rest)
  same_first e =
      ap (λ (b : ℕ). run_from l seen (in_block b (r ∷ rs))) e ∙ ap (run_from l seen) (in_here r rs)
      ∙ run_next l seen r (in_block (block r) rs)
      ∙ ap (λ (s : ℕ). continues l seen r && run_from r s (in_block (block r) rs)) (sym (same_seen l seen r e))

  later_first : block l < block r → each_next not_before r rs ≡ true → run_from l seen (in_block (block l) (r ∷ rs)) ≡ ends l
  later_first h e = ap (run_from l seen) (in_earlier (block l) r rs e h) ∙ run_end l seen

  begun : block l < block r → runs (in_block (block r) (r ∷ rs)) ≡ (begins r && rest)
  begun h = ap runs (in_here r rs) ∙ ap (λ (s : ℕ). begins r && run_from r s (in_block (block r) rs)) (sym (later_seen l seen r h))

  untouched : (b : ℕ) → block r < b → runs (in_block b (r ∷ rs)) ≡ runs (in_block b rs)
  untouched b h = ap runs (in_later b r rs h)

  -- the list fits after l exactly where r does and the rest fits after r
  fits_on : is_item r ≡ true → not_before l r ≡ true → linked l seen r ≡ true → Fits r (seen_after l seen r) rs → Fits l seen (r ∷ rs)
  fits_on i n k f = go (eq-or-lt_of_le (leb-true (block l) (block r) (block_up l r n)))
    where
      go : (block l ≡ block r) ⊎ (block l < block r) → Fits l seen (r ∷ rs)
      go (inl e) =
          record {
            items = every_join is_item r rs i f.items;
            order = next_join not_before l r rs n f.order;
            first = same_first e ∙ both (continues l seen r) rest (sym (same_linked l seen r e) ∙ k) f.first;
            later = λ b h. untouched b (omega arith) ∙ f.later b (omega arith);
          }
      go (inr h) =
          let link = both_true (ends l) (begins r) (sym (later_linked l seen r h) ∙ k) in
          record {
            items = every_join is_item r rs i f.items;
            order = next_join not_before l r rs n f.order;
            first = later_first h f.order ∙ link.0;
            later = λ b g. at b link.1 h;
          }
        where
          at : (b : ℕ) → begins r ≡ true → block l < block r → runs (in_block b (r ∷ rs)) ≡ true
          at b w h =
              by_test (leb (block r) b)
              (λ u. above (eq-or-lt_of_le (leb-true (block r) b u)))
              (λ u. ap runs (in_earlier b r rs f.order (leb-false (block r) b u)))
            where
              above : (block r ≡ b) ⊎ (block r < b) → runs (in_block b (r ∷ rs)) ≡ true
              above (inl e) = ap (λ (x : ℕ). runs (in_block x (r ∷ rs))) (sym e) ∙ begun h ∙ both (begins r) rest w f.first
              above (inr v) = untouched b v ∙ f.later b v

  fits_back : Fits l seen (r ∷ rs) → (is_item r ≡ true) × (not_before l r ≡ true) × (linked l seen r ≡ true) × Fits r (seen_after l seen r) rs
  fits_back f = go (eq-or-lt_of_le (leb-true (block l) (block r) (block_up l r n.0)))
    where
      i : (is_item r ≡ true) × (every is_item rs ≡ true)
      i = every_split is_item r rs f.items

      n : (not_before l r ≡ true) × (each_next not_before r rs ≡ true)
      n = next_split not_before l r rs f.order

      go : (block l ≡ block r) ⊎ (block l < block r) → (is_item r ≡ true) × (not_before l r ≡ true) × (linked l seen r ≡ true) × Fits r (seen_after l seen r) rs
      go (inl e) =
          let on = both_true (continues l seen r) rest (sym (same_first e) ∙ f.first) in
          (i.0, n.0, same_linked l seen r e ∙ on.0, record { items = i.1; order = n.1; first = on.1; later = λ b h. sym (untouched b h) ∙ f.later b (omega arith) })
      go (inr h) =
          let on = both_true (begins r) rest (sym (begun h) ∙ f.later (block r) h) in
          let end : ends l ≡ true = sym (later_first h n.1) ∙ f.first in (
            i.0,
            n.0,
            later_linked l seen r h ∙ both (ends l) (begins r) end on.0,
            record { items = i.1; order = n.1; first = on.1; later = λ b g. sym (untouched b g) ∙ f.later b (omega arith) },
          )

-- ---- the walk
pub fits_accepts : (l : Row) (seen : ℕ) (rs : List Row) → Fits l seen rs → accepts l seen rs ≡ true
unfolding accepts fits_after
fits_accepts l seen [] f = sym (run_end l seen) ∙ nothing f.first
  where
    nothing : run_from l seen (in_block (block l) []) ≡ true → run_from l seen [] ≡ true
    nothing = unfold only in λ e. e
fits_accepts l seen (r ∷ rs) f =
    let b = fits_back l seen r rs f in
    both (fits_after l seen r) (accepts r (seen_after l seen r) rs)
    (both (is_item r) (not_before l r && linked l seen r) b.0 (both (not_before l r) (linked l seen r) b.1 b.2))
    (fits_accepts r (seen_after l seen r) rs b.3)

pub accepts_fits : (l : Row) (seen : ℕ) (rs : List Row) → accepts l seen rs ≡ true → Fits l seen rs
unfolding accepts fits_after
accepts_fits l seen [] e = none
  where
    none : Fits l seen []
    none = unfold only every each_next run_from in record { items = refl; order = refl; first = e; later = λ b h. refl }
accepts_fits l seen (r ∷ rs) e =
    let a = both_true (fits_after l seen r) (accepts r (seen_after l seen r) rs) e in
    let b = both_true (is_item r) (not_before l r && linked l seen r) a.0 in
    let c = both_true (not_before l r) (linked l seen r) b.1 in
    fits_on l seen r rs b.0 c.0 c.1 (accepts_fits r (seen_after l seen r) rs a.1)
