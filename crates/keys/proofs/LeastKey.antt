-- What the least key from a bound on tells: if k keys are below the bound, its player is the one ranked k. Assumes nothing.
use mathlib.Core.Path.{◌≡◌, refl, sym, ap, subst, ◌∙◌}
use mathlib.Core.Bool.{Bool, true, false, ◌&&◌, cond, true≢false}
use mathlib.Core.Logic.{◌⊎◌, inl, inr, ⊎_elim}
use Prim.Native.Nat.{ℕ, zero, suc, ◌+◌, ◌≤◌, ◌<◌}
use native.Mathlib.Nat.{le_antisymm, le_refl, le_step, eq-or-lt_of_le, le_of_suc-le-suc}
use native.Mathlib.Numerals.{add-one}
use native.Mathlib.Omega.{arith}
use lib.Dec.{leb, ltb}
use borrow.Author.Tests.{ltb-true, ltb-false, leb-true, lt-ltb, le-ltb, le-leb}
use Rattle.lists.specs.Counting.{count_to}
use Rattle.lists.specs.Ranking.{rank, ranked}
use Rattle.keys.specs.Keys.{no_key, lower_from, least_from, Least, has_key, lower_key, keys_below, TellsNumber}
use Rattle.lists.proofs.Counting.{count_le, count_zero, count_same, count_more, count_jump, count_some}
use Rattle.lists.proofs.Ranking.{ranked_is}
use Rattle.lists.proofs.Bools.{both, left_true, right_true, same_test, by_test}

-- ---- a loop that keeps the least key
pub least_none : (keys : ℕ → ℕ) (from : ℕ) → Least 0 keys from no_key
least_none keys from = record { capped = le_refl no_key; below = λ k l h. absurd (omega arith); found = inl refl }

-- a key that is taken is not below `from`, and is the lower one; one that is left is below `from` or not the lower one
taken : (from key best r : ℕ) → r ≡ lower_from from key best → ((from ≤ key) × (key < best) × (r ≡ key)) ⊎ ((from ≤ key → best ≤ key) × (r ≡ best))
taken from key best r e =
    by_test {C = ((from ≤ key) × (key < best) × (r ≡ key)) ⊎ ((from ≤ key → best ≤ key) × (r ≡ best))} (leb from key && ltb key best)
    (λ t. inl (leb-true from key (left_true (leb from key) (ltb key best) t), ltb-true key best (right_true (leb from key) (ltb key best) t), e ∙ ap (λ (b : Bool). cond b key best) t))
    (λ f. inr ((λ (h : from ≤ key). by_test (ltb key best) (λ s. absurd (true≢false (sym (both (leb from key) (ltb key best) (le-leb from key h) s) ∙ f))) (λ s. ltb-false key best s)), e ∙ ap (λ (b : Bool). cond b key best) f))

least_suc : (keys : ℕ → ℕ) (from best next n : ℕ) → Least n keys from best → next ≡ lower_from from (keys n) best → Least (suc n) keys from next
least_suc keys from best next n w e =
    ⊎_elim
    (λ (t : (from ≤ keys n) × (keys n < best) × (next ≡ keys n)).
    record {
      capped = omega (arith, w.capped);
      below = λ k l h. ⊎_elim (λ (same : k ≡ n). let a : keys k ≡ keys n = ap keys same in omega arith) (λ (m : k < n). omega (arith, w.below k m h)) (eq-or-lt_of_le (le_of_suc-le-suc l));
      found = inr (n, le_refl (suc n), sym t.2, omega arith);
    })
    (λ (f : (from ≤ keys n → best ≤ keys n) × (next ≡ best)).
    record {
      capped = omega (arith, w.capped);
      below = λ k l h. ⊎_elim (λ (same : k ≡ n). let a : keys k ≡ keys n = ap keys same in omega (arith, f.0 (omega arith))) (λ (m : k < n). omega (arith, w.below k m h)) (eq-or-lt_of_le (le_of_suc-le-suc l));
      found = ⊎_elim (λ (z : best ≡ no_key). inl (f.1 ∙ z)) (λ (v : (k : ℕ) × (k < n) × (keys k ≡ best) × (from ≤ best)). inr (v.0, le_step v.1, v.2 ∙ sym f.1, omega (arith, v.3))) w.found;
    })
    (taken from (keys n) best next e)

pub least_turn : (keys : ℕ → ℕ) (from key best next i : ℕ) → Least i keys from best → key ≡ keys i → next ≡ lower_from from key best → Least (i + 1) keys from next
least_turn keys from key best next i w a e =
    subst (λ (n : ℕ). Least n keys from next) (sym (add-one i)) (least_suc keys from best next i w (e ∙ ap (λ (k : ℕ). lower_from from k best) a))

pub least_done : (keys : ℕ → ℕ) (from r i n : ℕ) → i ≤ n → n ≤ i → Least i keys from r → Least n keys from r
least_done keys from r i n a b w = subst (λ (k : ℕ). Least k keys from r) (omega arith) w

-- there is one such key
pub least_once : (n : ℕ) (keys : ℕ → ℕ) (from r s : ℕ) → Least n keys from r → Least n keys from s → r ≡ s
least_once n keys from r s v w = le_antisymm (at_most r s v w) (at_most s r w v)
  where
    at_most : (r s : ℕ) → Least n keys from r → Least n keys from s → r ≤ s
    at_most r s v w =
        ⊎_elim (λ (z : s ≡ no_key). omega (arith, v.capped)) (λ (u : (k : ℕ) × (k < n) × (keys k ≡ s) × (from ≤ s)). omega (arith, v.below u.0 u.1 (omega (arith, u.2, u.3)), u.2)) w.found

-- ---- the definition is that key
split : (k : ℕ) → (k ≡ 0) ⊎ ((j : ℕ) × (k ≡ suc j))
split zero = inl refl
split (suc j) = inr (j, refl)

-- one more key at the front
least_front : (keys : ℕ → ℕ) (from best next n : ℕ) → Least n (λ k. keys (suc k)) from best → next ≡ lower_from from (keys 0) best → Least (suc n) keys from next
least_front keys from best next n w e =
    ⊎_elim
    (λ (t : (from ≤ keys 0) × (keys 0 < best) × (next ≡ keys 0)).
    record {
      capped = omega (arith, w.capped);
      below = λ k l h. ⊎_elim (λ (z : k ≡ 0). let a : keys k ≡ keys 0 = ap keys z in omega arith) (λ (s : (j : ℕ) × (k ≡ suc j)). let a : keys k ≡ keys (suc s.0) = ap keys s.1 in omega (arith, w.below s.0 (omega (arith, s.1)) (omega arith))) (split k);
      found = inr (0, omega arith, sym t.2, omega arith);
    })
    (λ (f : (from ≤ keys 0 → best ≤ keys 0) × (next ≡ best)).
    record {
      capped = omega (arith, w.capped);
      below = λ k l h. ⊎_elim (λ (z : k ≡ 0). let a : keys k ≡ keys 0 = ap keys z in omega (arith, f.0 (omega arith))) (λ (s : (j : ℕ) × (k ≡ suc j)). let a : keys k ≡ keys (suc s.0) = ap keys s.1 in omega (arith, w.below s.0 (omega (arith, s.1)) (omega arith))) (split k);
      found = ⊎_elim (λ (z : best ≡ no_key). inl (f.1 ∙ z)) (λ (v : (k : ℕ) × (k < n) × (keys (suc k) ≡ best) × (from ≤ best)). inr (suc v.0, omega (arith, v.1), v.2 ∙ sym f.1, omega (arith, v.3))) w.found;
    })
    (taken from (keys 0) best next e)

pub least_is : (n : ℕ) (keys : ℕ → ℕ) (from : ℕ) → Least n keys from (least_from n keys from)
unfolding least_from
least_is zero keys from = least_none keys from
least_is (suc n) keys from = least_front keys from (least_from n (λ k. keys (suc k)) from) (lower_from from (keys 0) (least_from n (λ k. keys (suc k)) from)) n (least_is n (λ k. keys (suc k)) from) refl

pub least_told : (n : ℕ) (keys : ℕ → ℕ) (from r : ℕ) → r ≡ least_from n keys from → Least n keys from r
least_told n keys from r e = subst (λ (x : ℕ). Least n keys from x) (sym e) (least_is n keys from)

-- ---- keys of which no two are equal
module _ (keys : ℕ → ℕ) (differ : (i j : ℕ) → i < 20 → j < 20 → keys i < no_key → keys i ≡ keys j → i ≡ j) where
  irreflexive : (i : ℕ) → lower_key keys i i ≡ false
  irreflexive i = le-ltb (keys i) (keys i) (le_refl (keys i))

  transitive : (i j k : ℕ) → lower_key keys i j ≡ true → lower_key keys j k ≡ true → lower_key keys i k ≡ true
  transitive i j k s t = lt-ltb (keys i) (keys k) (omega (arith, ltb-true (keys i) (keys j) s, ltb-true (keys j) (keys k) t))

  total : (i j : ℕ) → i < 20 → j < 20 → has_key keys i ≡ true → has_key keys j ≡ true → (i ≡ j → ⊥) → lower_key keys i j ≡ false → lower_key keys j i ≡ true
  total i j l m s t n f =
      lt-ltb (keys j) (keys i)
      (⊎_elim (λ (e : keys j ≡ keys i). absurd (n (differ i j l m (ltb-true (keys i) no_key s) (sym e)))) (λ (h : keys j < keys i). h) (eq-or-lt_of_le (ltb-false (keys i) (keys j) f)))

  -- a rank counts the lower keys
  rank_counts : (i : ℕ) → keys i < no_key → rank 20 (has_key keys) (lower_key keys) i ≡ keys_below keys (keys i)
  unfolding rank keys_below
  rank_counts i h =
      count_same 20 (λ j. has_key keys j && lower_key keys j i) (λ j. ltb (keys j) (keys i))
      (λ j l. same_test (has_key keys j && lower_key keys j i) (ltb (keys j) (keys i)) (λ t. right_true (has_key keys j) (lower_key keys j i) t)
      (λ t. both (has_key keys j) (lower_key keys j i) (lt-ltb (keys j) no_key (omega (arith, ltb-true (keys j) (keys i) t))) t))

  -- the player of the least key from a bound on, where k keys are below the bound and more than k players have one
  pub record Next (k r : ℕ) : Type 0 where
    pub place : ℕ
    pub within : place < 20
    pub its : keys place ≡ r
    pub some : r < no_key
    pub is_ranked : ranked 20 (has_key keys) (lower_key keys) k ≡ place
    pub passed : keys_below keys (suc r) ≡ suc k

  pub next_ranked : (k from r : ℕ) → keys_below keys from ≡ k → k < keys_below keys no_key → Least 20 keys from r → Next k r
  unfolding keys_below
  next_ranked k from r e h w =
      let s = count_some 20 (λ i. ltb (keys i) from) (λ i. ltb (keys i) no_key) (omega (arith, e, h)) in
      let low : keys s.0 < no_key = ltb-true (keys s.0) no_key s.2 in
      let high : from ≤ keys s.0 = ltb-false (keys s.0) from s.3 in
      let small : r < no_key = omega (arith, w.below s.0 s.1 high) in
      let v : (i : ℕ) × (i < 20) × (keys i ≡ r) × (from ≤ r) = ⊎_elim (λ (z : r ≡ no_key). absurd (omega arith)) (λ (u : (i : ℕ) × (i < 20) × (keys i ≡ r) × (from ≤ r)). u) w.found in
      let level : keys_below keys r ≡ k =
      count_same 20 (λ i. ltb (keys i) r) (λ i. ltb (keys i) from)
      (λ i l. same_test (ltb (keys i) r) (ltb (keys i) from)
      (λ t. by_test (ltb (keys i) from) (λ u. u) (λ u. absurd (omega (arith, ltb-true (keys i) r t, w.below i l (ltb-false (keys i) from u)))))
      (λ t. lt-ltb (keys i) r (omega (arith, ltb-true (keys i) from t, v.3))))
      ∙ e
      in
      let has : keys v.0 < no_key = subst (λ (x : ℕ). x < no_key) (sym v.2) small in
      let up : keys_below keys (suc r) ≤ keys_below keys r + 1 =
      count_jump 20 (λ i. ltb (keys i) r) (λ i. ltb (keys i) (suc r))
      (λ i j l m a b c d.
      let one : keys i ≡ r = omega (arith, ltb-true (keys i) (suc r) a, ltb-false (keys i) r b) in
      let two : keys j ≡ r = omega (arith, ltb-true (keys j) (suc r) c, ltb-false (keys j) r d) in
      differ i j l m (omega arith) (one ∙ sym two))
      in
      let more : keys_below keys r < keys_below keys (suc r) =
      count_more 20 (λ i. ltb (keys i) r) (λ i. ltb (keys i) (suc r)) (λ i l t. lt-ltb (keys i) (suc r) (omega (arith, ltb-true (keys i) r t))) v.0 v.1
      (le-ltb (keys v.0) r (omega (arith, v.2))) (lt-ltb (keys v.0) (suc r) (omega (arith, v.2)))
      in
      record {
        place = v.0;
        within = v.1;
        its = v.2;
        some = small;
        is_ranked = ranked_is 20 (has_key keys) (lower_key keys) irreflexive transitive total v.0 k v.1 (lt-ltb (keys v.0) no_key has) (rank_counts v.0 has ∙ ap (keys_below keys) v.2 ∙ level);
        passed = omega (arith, up, more, level);
      }

-- keys that tell the number differ
pub differ : (number keys : ℕ → ℕ) → TellsNumber number keys → (i j : ℕ) → i < 20 → j < 20 → keys i < no_key → keys i ≡ keys j → i ≡ j
differ number keys tells i j l m h e =
    let same : i + 1 ≡ j + 1 = sym (tells i l h) ∙ ap number e ∙ tells j m (subst (λ (x : ℕ). x < no_key) e h) in
    omega arith

-- there are at most 20 keys
pub below_20 : (keys : ℕ → ℕ) (x : ℕ) → keys_below keys x ≤ 20
unfolding keys_below
below_20 keys x = count_le 20 (λ i. ltb (keys i) x)

-- somebody has a key
pub some_key : (keys : ℕ → ℕ) (i : ℕ) → i < 20 → keys i < no_key → 0 < keys_below keys no_key
unfolding keys_below
some_key keys i l h =
    let more : count_to 20 (λ k. false) < count_to 20 (has_key keys) = count_more 20 (λ k. false) (has_key keys) (λ k m t. absurd (true≢false (sym t))) i l refl (lt-ltb (keys i) no_key h) in
    omega arith

-- no key is below 0
pub below_zero : (keys : ℕ → ℕ) → keys_below keys 0 ≡ 0
unfolding keys_below
below_zero keys = count_zero 20 (λ i. ltb (keys i) 0) (λ i l. le-ltb (keys i) 0 (omega arith))
