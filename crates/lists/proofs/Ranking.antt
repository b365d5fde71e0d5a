-- The places below n that pass a test, in a strict total order: where m of them pass, their ranks are 0, .., m - 1, each once, and follow the order. Assumes nothing.
use mathlib.Core.Path.{◌≡◌, sym, ap, subst, ◌∙◌}
use mathlib.Core.Bool.{Bool, true, false, ◌&&◌, and-false}
use Prim.Native.Nat.{ℕ, zero, suc, ◌+◌, ◌-◌, ◌≤◌, ◌<◌, compare}
use native.Mathlib.Omega.{arith}
use lib.Dec.{ltb, eqb}
use borrow.Author.Tests.{ltb-true, ltb-false, eqb-true, eqb-false, lt-ltb, le-ltb, eq-eqb}
use Rattle.lists.specs.Counting.{count_to}
use Rattle.lists.proofs.Comparing.{by_order}
use Rattle.lists.specs.Ranking.{and_then, is_less, rank, ranked}
use Rattle.lists.proofs.Bools.{both, left_true, right_true, right_false, same_test, by_test, both_same}
use Rattle.lists.proofs.Counting.{count_zero, count_same, count_more, count_jump, count_some, first_same, first_only}

-- ---- numbers that compare as pairs do
pub lexical : (k l x y a b : ℕ) → (x < y → k < l) → (y < x → l < k) → (x ≡ y → a < b → k < l) → (x ≡ y → b ≤ a → l ≤ k) → ltb k l ≡ is_less (and_then (compare x y) (compare a b))
lexical k l x y a b p q r s =
    by_order (λ o. ltb k l ≡ is_less (and_then o (compare a b))) x y (λ h. lt-ltb k l (p h))
    (λ e. by_order (λ o. ltb k l ≡ is_less o) a b (λ h. lt-ltb k l (r e h)) (λ h. le-ltb k l (s e (omega arith))) (λ h. le-ltb k l (s e (omega arith))))
    (λ h. le-ltb k l (omega (arith, q h)))

-- ---- the same test and the same order give the same place
pub rank_same : (n : ℕ) (p q : ℕ → Bool) (b d : ℕ → ℕ → Bool) (i : ℕ) → ((j : ℕ) → j < n → (p j && b j i) ≡ (q j && d j i)) → rank n p b i ≡ rank n q d i
unfolding rank
rank_same n p q b d i e = count_same n (λ j. p j && b j i) (λ j. q j && d j i) e

pub ranked_same : (n : ℕ) (p q : ℕ → Bool) (b d : ℕ → ℕ → Bool) (k : ℕ) → ((j : ℕ) → j < n → p j ≡ q j)
    → ((i j : ℕ) → i < n → j < n → p i ≡ true → p j ≡ true → b i j ≡ d i j) → ranked n p b k ≡ ranked n q d k
unfolding ranked
ranked_same n p q b d k e f =
    first_same n (λ i. p i && eqb (rank n p b i) k) (λ i. q i && eqb (rank n q d i) k)
    (λ i l. both_same (p i) (eqb (rank n p b i) k) (q i) (eqb (rank n q d i) k) (e i l)
    (λ t. ap (λ (r : ℕ). eqb r k) (rank_same n p q b d i (λ j m. both_same (p j) (b j i) (q j) (d j i) (e j m) (λ s. f j i m l s t)))))

module _ (n : ℕ) (p : ℕ → Bool) (before : ℕ → ℕ → Bool)
    (irreflexive : (i : ℕ) → before i i ≡ false)
    (transitive : (i j k : ℕ) → before i j ≡ true → before j k ≡ true → before i k ≡ true)
    (total : (i j : ℕ) → i < n → j < n → p i ≡ true → p j ≡ true → (i ≡ j → ⊥) → before i j ≡ false → before j i ≡ true)
  where
    -- ranks follow the order
    pub rank_follows : (i j : ℕ) → i < n → p i ≡ true → before i j ≡ true → rank n p before i < rank n p before j
    unfolding rank
    rank_follows i j l s t =
        count_more n (λ k. p k && before k i) (λ k. p k && before k j)
        (λ k m u. both (p k) (before k j) (left_true (p k) (before k i) u) (transitive k i j (right_true (p k) (before k i) u) t))
        i l (ap (λ (b : Bool). p i && b) (irreflexive i) ∙ and-false (p i)) (both (p i) (before i j) s t)

    -- and tell the order
    pub order_follows : (i j : ℕ) → i < n → j < n → p i ≡ true → p j ≡ true → rank n p before i < rank n p before j → before i j ≡ true
    order_follows i j l m s t h =
        by_test (before i j) (λ u. u)
        (λ u. absurd
        (let back : before j i ≡ true = total i j l m s t (λ (e : i ≡ j). let r : rank n p before i ≡ rank n p before j = ap (rank n p before) e in omega arith) u in
        let r : rank n p before j < rank n p before i = rank_follows j i m t back in omega arith))

    -- no two have one rank
    pub rank_once : (i j : ℕ) → i < n → j < n → p i ≡ true → p j ≡ true → rank n p before i ≡ rank n p before j → i ≡ j
    rank_once i j l m s t e =
        by_test (eqb i j) (λ u. eqb-true i j u)
        (λ u. absurd
        (by_test (before i j)
        (λ v. let r : rank n p before i < rank n p before j = rank_follows i j l s v in omega arith)
        (λ v. let r : rank n p before j < rank n p before i = rank_follows j i m t (total i j l m s t (eqb-false i j u) v) in omega arith)))

    -- a rank is below the number of those that pass
    pub rank_below : (i : ℕ) → i < n → p i ≡ true → rank n p before i < count_to n p
    unfolding rank
    rank_below i l s =
        count_more n (λ k. p k && before k i) p (λ k m u. left_true (p k) (before k i) u) i l (ap (λ (b : Bool). p i && b) (irreflexive i) ∙ and-false (p i)) s

    -- the one with a rank is ranked there
    pub ranked_is : (i k : ℕ) → i < n → p i ≡ true → rank n p before i ≡ k → ranked n p before k ≡ i
    unfolding ranked
    ranked_is i k l s e =
        first_only n (λ j. p j && eqb (rank n p before j) k) i l (both (p i) (eqb (rank n p before i) k) s (eq-eqb (rank n p before i) k e))
        (λ j m u.
        rank_once j i m l (left_true (p j) (eqb (rank n p before j) k) u) s
        (eqb-true (rank n p before j) k (right_true (p j) (eqb (rank n p before j) k) u) ∙ sym e))

    -- how many have a rank below k: k of them, for k up to the number of those that pass
    ranks_below : ℕ → ℕ
    ranks_below k = count_to n (λ j. p j && ltb (rank n p before j) k)

    at_rank : (j k : ℕ) → (p j && ltb (rank n p before j) (suc k)) ≡ true → (p j && ltb (rank n p before j) k) ≡ false → rank n p before j ≡ k
    at_rank j k t f =
        let s : p j ≡ true = left_true (p j) (ltb (rank n p before j) (suc k)) t in
        let a : rank n p before j < suc k = ltb-true (rank n p before j) (suc k) (right_true (p j) (ltb (rank n p before j) (suc k)) t) in
        let b : k ≤ rank n p before j = ltb-false (rank n p before j) k (right_false (p j) (ltb (rank n p before j) k) s f) in
        omega arith

    below_step : (k : ℕ) → ranks_below (suc k) ≤ ranks_below k + 1
    unfolding ranks_below
    below_step k =
        count_jump n (λ j. p j && ltb (rank n p before j) k) (λ j. p j && ltb (rank n p before j) (suc k))
        (λ i j l m s f t g.
        rank_once i j l m (left_true (p i) (ltb (rank n p before i) (suc k)) s) (left_true (p j) (ltb (rank n p before j) (suc k)) t)
        (at_rank i k s f ∙ sym (at_rank j k t g)))

    below_none : ranks_below 0 ≡ 0
    unfolding ranks_below
    below_none =
        count_zero n (λ j. p j && ltb (rank n p before j) 0)
        (λ j l. ap (λ (b : Bool). p j && b) (le-ltb (rank n p before j) 0 (omega arith)) ∙ and-false (p j))

    below_le : (k : ℕ) → ranks_below k ≤ k
    below_le zero = omega (arith, below_none)
    below_le (suc k) = omega (arith, below_step k, below_le k)

    below_gap : (k d : ℕ) → ranks_below (k + d) ≤ ranks_below k + d
    below_gap k zero = let e : ranks_below (k + 0) ≡ ranks_below k = ap ranks_below (omega arith) in omega arith
    below_gap k (suc d) =
        let e : ranks_below (k + suc d) ≡ ranks_below (suc (k + d)) = ap ranks_below (omega arith) in
        omega (arith, below_step (k + d), below_gap k d)

    below_all : ranks_below (count_to n p) ≡ count_to n p
    unfolding ranks_below
    below_all =
        count_same n (λ j. p j && ltb (rank n p before j) (count_to n p)) p
        (λ j l. same_test (p j && ltb (rank n p before j) (count_to n p)) (p j) (λ t. left_true (p j) (ltb (rank n p before j) (count_to n p)) t)
        (λ t. both (p j) (ltb (rank n p before j) (count_to n p)) t (lt-ltb (rank n p before j) (count_to n p) (rank_below j l t))))

    below_is : (k : ℕ) → k ≤ count_to n p → ranks_below k ≡ k
    below_is k h =
        let d : ℕ = count_to n p - k in
        let e : k + d ≡ count_to n p = omega arith in
        let whole : ranks_below (k + d) ≡ count_to n p = ap ranks_below e ∙ below_all in
        omega (arith, below_gap k d, below_le k)

    -- each rank below the number of those that pass is that of one of them
    pub rank_onto : (k : ℕ) → k < count_to n p → (i : ℕ) × (i < n) × (p i ≡ true) × (rank n p before i ≡ k)
    unfolding ranks_below
    rank_onto k h =
        let less : ranks_below k < ranks_below (suc k) = omega (arith, below_is k (omega arith), below_is (suc k) h) in
        let w = count_some n (λ j. p j && ltb (rank n p before j) k) (λ j. p j && ltb (rank n p before j) (suc k)) less in
        (w.0, w.1, left_true (p w.0) (ltb (rank n p before w.0) (suc k)) w.2, at_rank w.0 k w.2 w.3)

    -- so the one ranked k is there, passes, and has the rank k
    pub ranked_there : (k : ℕ) → k < count_to n p → (ranked n p before k < n) × (p (ranked n p before k) ≡ true) × (rank n p before (ranked n p before k) ≡ k)
    ranked_there k h =
        let w = rank_onto k h in
        let e : ranked n p before k ≡ w.0 = ranked_is w.0 k w.1 w.2 w.3 in
        (subst (λ (i : ℕ). i < n) (sym e) w.1, subst (λ (i : ℕ). p i ≡ true) (sym e) w.2, subst (λ (i : ℕ). rank n p before i ≡ k) (sym e) w.3)
