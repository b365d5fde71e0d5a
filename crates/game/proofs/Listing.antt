-- Lists of players by their numbers. What a loop that appends numbers to a counted array of 20 keeps: after i turns the array is `listed (flat_to i f)`. Assumes
-- nothing.
use mathlib.Core.Path.{◌≡◌, refl, sym, ap, ap₂, subst, ◌∙◌}
use mathlib.Core.Bool.{Bool, true, false}
use mathlib.Core.List.{List}
use Prim.Native.Nat.{ℕ, zero, suc, ◌+◌, ◌≤◌, ◌<◌}
use native.Mathlib.Nat.{le_antisymm}
use native.Mathlib.Omega.{arith}
use lib.ListN.{length, get_or, replicate, length-append}
use Rattle.lists.specs.Gather.{flat_to, only_if}
use Rattle.lists.specs.Put.{fronted}
use Rattle.lists.specs.Table.{table}
use Rattle.lists.proofs.Gather.{flat_same}
use Rattle.lists.proofs.Put.{put_turn}
use Rattle.lists.proofs.Table.{table_at}
use Rattle.game.specs.Players.{listed, number_at, numbers_where, append_if}
use Rattle.game.specs.declared.PlayerList.{PlayerList}

-- one element at most
one_at_most : (b : Bool) (x : ℕ) → length (only_if b x) ≤ 1
one_at_most true x = omega arith
one_at_most false x = omega arith

module _ (b : ℕ → Bool) (x : ℕ → ℕ) where
  -- i turns append i numbers at most
  pub few : (i : ℕ) → length (flat_to i (λ k. only_if (b k) (x k))) ≤ i
  unfolding flat_to
  few zero = omega arith
  few (suc i) = omega (arith, few i, one_at_most (b i) (x i), length-append (flat_to i (λ k. only_if (b k) (x k))) (only_if (b i) (x i)))

  -- before the loop
  pub listed_none : record { count = 0; numbers = replicate 20 0 } ≡ listed (flat_to 0 (λ k. only_if (b k) (x k)))
  unfolding listed fronted flat_to
  listed_none = refl

  -- the count so far
  pub listed_count : (i : ℕ) (l : PlayerList) → l ≡ listed (flat_to i (λ k. only_if (b k) (x k))) → l.count ≤ i
  unfolding listed
  listed_count i l e = subst (λ (n : ℕ). n ≤ i) (sym (ap (λ (p : PlayerList). p.count) e)) (few i)

  -- a turn
  pub listed_turn : (i : ℕ) (l : PlayerList) → i < 20 → l ≡ listed (flat_to i (λ k. only_if (b k) (x k))) → append_if (b i) l (x i) ≡ listed (flat_to (i + 1) (λ k. only_if (b k) (x k)))
  unfolding listed
  listed_turn i l h e =
      let f : ℕ → List ℕ = λ k. only_if (b k) (x k) in
      let n : l.count ≤ i = listed_count i l e in
      let both = put_turn f (b i) (x i) (replicate 20 0) l.numbers (append_if (b i) l (x i)).numbers i l.count (append_if (b i) l (x i)).count (λ t. omega arith) refl (ap (λ (p : PlayerList). p.numbers) e) (ap (λ (p : PlayerList). p.count) e) refl refl in
      ap₂ (λ (c : ℕ) (ns : List ℕ). record { count = c; numbers = ns }) both.1 both.0

  -- the loop's end
  pub listed_done : (i n : ℕ) (l : PlayerList) → i ≤ n → n ≤ i → l ≡ listed (flat_to i (λ k. only_if (b k) (x k))) → l ≡ listed (flat_to n (λ k. only_if (b k) (x k)))
  listed_done i n l p q e = e ∙ ap (λ (k : ℕ). listed (flat_to k (λ j. only_if (b j) (x j)))) (le_antisymm p q)

-- ---- properties that are the same at every place name the same players
pub numbers_same : (b c : ℕ → Bool) → ((i : ℕ) → i < 20 → b i ≡ c i) → numbers_where b ≡ numbers_where c
unfolding numbers_where
numbers_same b c e = ap listed (flat_same 20 (λ i. only_if (b i) (number_at i)) (λ i. only_if (c i) (number_at i)) (λ i h. ap (λ (z : Bool). only_if z (number_at i)) (e i h)))

-- flags that are the table of a property
pub numbers_flagged : (flags : List Bool) (b : ℕ → Bool) → flags ≡ table 20 b → numbers_where (λ i. get_or flags i false) ≡ numbers_where b
numbers_flagged flags b e = numbers_same (λ i. get_or flags i false) b (λ i h. ap (λ (l : List Bool). get_or l i false) e ∙ table_at 20 b false i h)
