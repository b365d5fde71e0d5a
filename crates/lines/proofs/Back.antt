-- What a loop that fills the front of a list from its last place to its first keeps: with the places c to n - 1 done the list is `backed f n d c`. Assumes nothing.
use mathlib.Core.Path.{◌≡◌, sym, ap, ap₂, ◌∙◌}
use mathlib.Core.List.{List, [], ◌∷◌, ◌++◌, append_assoc}
use Prim.Native.Nat.{ℕ, suc, ◌-◌, ◌≤◌, ◌<◌}
use native.Mathlib.Omega.{arith}
use lib.ListN.{length, take, drop, set, get_or, take-append-drop}
use lib.Seq.{take-suc, drop-cons, drop-length, set_at, length-take-le}
use Rattle.lists.specs.Table.{table}
use Rattle.lists.proofs.Table.{length_table, table_at}

module _ {A : Type 0} where
  -- the list d, its places from c to n - 1 filled by f
  abbrev pub backed : (ℕ → A) → ℕ → List A → ℕ → List A
  backed f n d c = take c d ++ (drop c (table n f) ++ drop n d)

  -- before the loop
  pub back_none : (f : ℕ → A) (n : ℕ) (d : List A) → d ≡ backed f n d n
  back_none f n d =
      sym (take-append-drop n d)
      ∙ ap (λ (t : List A). take n d ++ (t ++ drop n d)) (sym (ap (λ (k : ℕ). drop k (table n f)) (sym (length_table n f)) ∙ drop-length (table n f)))

  back_suc : (f : ℕ → A) (n : ℕ) (d out : List A) (c : ℕ) (v : A) → c < n → n ≤ length d → out ≡ backed f n d (suc c) → v ≡ f c → set out c v ≡ backed f n d c
  back_suc f n d out c v l m e p =
      let here : c < length d = omega arith in
      let in_table : c < length (table n f) = omega (arith, length_table n f) in
      ap₂ (λ (t : List A) (a : A). set t c a) e p
      ∙ ap (λ (t : List A). set (t ++ (drop (suc c) (table n f) ++ drop n d)) c (f c)) (take-suc d c (f c) here)
      ∙ ap (λ (t : List A). set t c (f c)) (append_assoc (take c d) (get_or d c (f c) ∷ []) (drop (suc c) (table n f) ++ drop n d))
      ∙ set_at (take c d) (get_or d c (f c)) (drop (suc c) (table n f) ++ drop n d) (f c) c (length-take-le c d (omega arith))
      ∙ ap (λ (a : A). take c d ++ (a ∷ (drop (suc c) (table n f) ++ drop n d))) (sym (table_at n f (f c) c l))
      ∙ ap (λ (t : List A). take c d ++ (t ++ drop n d)) (sym (drop-cons (table n f) c (f c) in_table))

  -- a turn stores v, which is f (c - 1)
  pub back_turn : (f : ℕ → A) (n : ℕ) (d out : List A) (c : ℕ) (v : A) → 0 < c → c ≤ n → n ≤ length d → out ≡ backed f n d c → v ≡ f (c - 1) → set out (c - 1) v ≡ backed f n d (c - 1)
  back_turn f n d out c v pos l m e p = back_suc f n d out (c - 1) v (omega arith) m (e ∙ let same : c ≡ suc (c - 1) = omega arith in ap (backed f n d) same) p

  -- the loop's end
  pub back_done : (f : ℕ → A) (n : ℕ) (d out : List A) (c : ℕ) → c ≤ 0 → out ≡ backed f n d c → out ≡ table n f ++ drop n d
  back_done f n d out c h e = let none : c ≡ 0 = omega arith in e ∙ ap (backed f n d) none
