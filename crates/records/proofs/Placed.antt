-- A test of each element beside its place, as the library and as the definitions say it. Assumes nothing.
use mathlib.Core.Path.{◌≡◌, refl, sym, ap, ◌∙◌}
use mathlib.Core.Bool.{Bool, ◌&&◌}
use mathlib.Core.List.{List}
use Prim.Native.Nat.{ℕ, zero, suc, ◌+◌, ◌≤◌, ◌<◌}
use native.Mathlib.Nat.{le_refl}
use native.Mathlib.Numerals.{add-one}
use native.Mathlib.Omega.{arith}
use lib.ListN.{length, get_or, take}
use Rattle.std.specs.List.{list_all, enumerate_from}
use Rattle.std.proofs.lemmas.List.{take_all}
use Rattle.std.proofs.lemmas.List.Folds.{list_all_more}
use Rattle.std.proofs.lemmas.List.FromFn.{length-enumerate_from, get_or-enumerate_from}
use Rattle.lists.specs.Every.{every_to}
use Rattle.lists.proofs.Every.{every_same}

-- the first n elements
front_by_place : {X : Type 0} (p : X → Bool) (xs : List X) (d : X) (n : ℕ) → n ≤ length xs → list_all p (take n xs) ≡ every_to n (λ i. p (get_or xs i d))
unfolding every_to
front_by_place p xs d zero h = refl
front_by_place p xs d (suc n) h =
    ap (λ (k : ℕ). list_all p (take k xs)) (sym (add-one n))
    ∙ list_all_more p xs n d h
    ∙ ap (λ (b : Bool). b && p (get_or xs n d)) (front_by_place p xs d n (omega arith))

module _ (P : ℕ → ℕ → Bool) (xs : List ℕ) where
  abbrev at_pair : ℕ × ℕ → Bool
  at_pair q = P q.0 q.1

  abbrev pairs : List (ℕ × ℕ)
  pairs = enumerate_from 0 xs

  at_place : (k : ℕ) → k < length xs → at_pair (get_or pairs k (0, 0)) ≡ P k (get_or xs k 0)
  at_place k h =
      let from : 0 + k ≡ k = omega arith in
      ap at_pair (get_or-enumerate_from 0 xs k (0, 0) h) ∙ ap (λ (j : ℕ). P j (get_or xs k 0)) from

  -- all of them
  pub placed : list_all (λ (q : ℕ × ℕ). P q.0 q.1) (enumerate_from 0 xs) ≡ every_to (length xs) (λ i. P i (get_or xs i 0))
  placed =
      ap (list_all at_pair) (sym (take_all (length pairs) pairs (le_refl (length pairs))))
      ∙ front_by_place at_pair pairs (0, 0) (length pairs) (le_refl (length pairs))
      ∙ ap (λ (n : ℕ). every_to n (λ i. at_pair (get_or pairs i (0, 0)))) (length-enumerate_from 0 xs)
      ∙ every_same (length xs) (λ i. at_pair (get_or pairs i (0, 0))) (λ i. P i (get_or xs i 0)) at_place
