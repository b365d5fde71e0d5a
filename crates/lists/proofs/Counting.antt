-- Laws of `count_to` and `first_to`: what a loop that counts keeps, how two counts compare, and where the first place is. Assumes nothing.
use mathlib.Core.Path.{◌≡◌, refl, sym, ap, ap₂, subst, ◌∙◌}
use mathlib.Core.Bool.{Bool, true, false, true≢false}
use mathlib.Core.Logic.{◌⊎◌, inl, inr, ⊎_elim}
use Prim.Native.Nat.{ℕ, zero, suc, ◌+◌, ◌≤◌, ◌<◌, zero-le, suc-le-suc}
use native.Mathlib.Nat.{le_antisymm, le_refl, le_step, eq-or-lt_of_le, le_of_suc-le-suc}
use native.Mathlib.Numerals.{add-one}
use native.Mathlib.Omega.{arith}
use Rattle.lists.specs.Put.{count_if}
use Rattle.lists.specs.Counting.{count_to, first_or, first_to}

-- ---- a loop that counts
pub count_none : (p : ℕ → Bool) → 0 ≡ count_to 0 p
unfolding count_to
count_none p = refl

pub count_turn : (p : ℕ → Bool) (b : Bool) (n next i : ℕ) → n ≡ count_to i p → b ≡ p i → next ≡ count_if b n → next ≡ count_to (i + 1) p
unfolding count_to
count_turn p b n next i e t s = s ∙ ap₂ count_if t e ∙ ap (λ (k : ℕ). count_to k p) (sym (add-one i))

pub count_done : (p : ℕ → Bool) (n i m : ℕ) → i ≤ m → m ≤ i → n ≡ count_to i p → n ≡ count_to m p
count_done p n i m a b e = e ∙ ap (λ (k : ℕ). count_to k p) (le_antisymm a b)

-- ---- a last place more
one_more : (b : Bool) (n : ℕ) → (n ≤ count_if b n) × (count_if b n ≤ n + 1)
one_more true n = (omega arith, omega arith)
one_more false n = (omega arith, omega arith)

one_kept : (a b : Bool) (m n : ℕ) → (a ≡ true → b ≡ true) → m ≤ n → count_if a m ≤ count_if b n
one_kept true true m n h l = omega arith
one_kept true false m n h l = absurd (true≢false (sym (h refl)))
one_kept false true m n h l = omega arith
one_kept false false m n h l = l

pub count_le : (n : ℕ) (p : ℕ → Bool) → count_to n p ≤ n
unfolding count_to
count_le zero p = omega arith
count_le (suc n) p = omega (arith, count_le n p, (one_more (p n) (count_to n p)).1)

-- nobody passes
pub count_zero : (n : ℕ) (p : ℕ → Bool) → ((k : ℕ) → k < n → p k ≡ false) → count_to n p ≡ 0
unfolding count_to
count_zero zero p h = refl
count_zero (suc n) p h = ap₂ count_if (h n (le_refl (suc n))) (count_zero n p (λ k l. h k (le_step l)))

-- ---- two tests
-- tests that agree give one count
pub count_same : (n : ℕ) (p q : ℕ → Bool) → ((k : ℕ) → k < n → p k ≡ q k) → count_to n p ≡ count_to n q
unfolding count_to
count_same zero p q e = refl
count_same (suc n) p q e = ap₂ count_if (e n (le_refl (suc n))) (count_same n p q (λ k h. e k (le_step h)))

-- who passes p passes q
pub count_mono : (n : ℕ) (p q : ℕ → Bool) → ((k : ℕ) → k < n → p k ≡ true → q k ≡ true) → count_to n p ≤ count_to n q
unfolding count_to
count_mono zero p q h = omega arith
count_mono (suc n) p q h = one_kept (p n) (q n) (count_to n p) (count_to n q) (h n (le_refl (suc n))) (count_mono n p q (λ k l. h k (le_step l)))

-- and one who passes q does not pass p
one_added : (a b : Bool) (m n : ℕ) → (a ≡ true → b ≡ true) → m < n → count_if a m < count_if b n
one_added true true m n h l = omega arith
one_added true false m n h l = absurd (true≢false (sym (h refl)))
one_added false true m n h l = omega arith
one_added false false m n h l = l

pub count_more : (n : ℕ) (p q : ℕ → Bool) → ((k : ℕ) → k < n → p k ≡ true → q k ≡ true) → (i : ℕ) → i < n → p i ≡ false → q i ≡ true → count_to n p < count_to n q
unfolding count_to
count_more zero p q h i l f t = absurd (omega arith)
count_more (suc n) p q h i l f t =
    ⊎_elim
    (λ (e : i ≡ n).
    let a : count_if (p n) (count_to n p) ≡ count_to n p = ap (λ (x : Bool). count_if x (count_to n p)) (subst (λ (k : ℕ). p k ≡ false) e f) in
    let b : count_if (q n) (count_to n q) ≡ count_to n q + 1 = ap (λ (x : Bool). count_if x (count_to n q)) (subst (λ (k : ℕ). q k ≡ true) e t) in
    omega (arith, count_mono n p q (λ k m. h k (le_step m))))
    (λ (m : i < n). one_added (p n) (q n) (count_to n p) (count_to n q) (h n (le_refl (suc n))) (count_more n p q (λ k o. h k (le_step o)) i m f t))
    (eq-or-lt_of_le (le_of_suc-le-suc l))

-- at most one passes q and not p
one_jump : (a b : Bool) (m n : ℕ) → (b ≡ true → a ≡ false → n ≤ m) → n ≤ m + 1 → count_if b n ≤ count_if a m + 1
one_jump true true m n h l = omega arith
one_jump true false m n h l = omega arith
one_jump false true m n h l = omega (arith, h refl refl)
one_jump false false m n h l = l

not-false : (b : Bool) → (b ≡ false → ⊥) → b ≡ true
not-false true h = refl
not-false false h = absurd (h refl)

pub count_jump : (n : ℕ) (p q : ℕ → Bool) → ((k l : ℕ) → k < n → l < n → q k ≡ true → p k ≡ false → q l ≡ true → p l ≡ false → k ≡ l) → count_to n q ≤ count_to n p + 1
unfolding count_to
count_jump zero p q h = omega arith
count_jump (suc n) p q h =
    one_jump (p n) (q n) (count_to n p) (count_to n q)
    (λ (t : q n ≡ true) (f : p n ≡ false).
    count_mono n q p
    (λ k l s. not-false (p k) (λ (g : p k ≡ false). let same : k ≡ n = h k n (le_step l) (le_refl (suc n)) s g t f in omega arith)))
    (count_jump n p q (λ k l a b. h k l (le_step a) (le_step b)))

-- where the count of q is the larger one, somebody passes q and not p
one_of : (a b : Bool) (m n : ℕ) → count_if a m < count_if b n → ((b ≡ true) × (a ≡ false)) ⊎ (m < n)
one_of true true m n h = inr (omega arith)
one_of true false m n h = inr (omega arith)
one_of false true m n h = inl (refl, refl)
one_of false false m n h = inr h

pub count_some : (n : ℕ) (p q : ℕ → Bool) → count_to n p < count_to n q → (i : ℕ) × (i < n) × (q i ≡ true) × (p i ≡ false)
unfolding count_to
count_some zero p q h = absurd (omega arith)
count_some (suc n) p q h =
    ⊎_elim {C = (i : ℕ) × (i < suc n) × (q i ≡ true) × (p i ≡ false)}
    (λ (e : (q n ≡ true) × (p n ≡ false)). (n, le_refl (suc n), e.0, e.1))
    (λ (l : count_to n p < count_to n q). let w = count_some n p q l in (w.0, le_step w.1, w.2, w.3))
    (one_of (p n) (q n) (count_to n p) (count_to n q) h)

-- ---- the first place
pub first_same : (n : ℕ) (p q : ℕ → Bool) → ((k : ℕ) → k < n → p k ≡ q k) → first_to n p ≡ first_to n q
unfolding first_to
first_same zero p q e = refl
first_same (suc n) p q e =
    ap₂ first_or (e 0 (suc-le-suc zero-le))
    (ap suc (first_same n (λ k. p (suc k)) (λ k. q (suc k)) (λ k l. e (suc k) (suc-le-suc l))))

-- nobody passes
pub first_none : (n : ℕ) (p : ℕ → Bool) → ((k : ℕ) → k < n → p k ≡ false) → first_to n p ≡ n
unfolding first_to
first_none zero p h = refl
first_none (suc n) p h =
    ap (λ (b : Bool). first_or b (suc (first_to n (λ k. p (suc k))))) (h 0 (suc-le-suc zero-le))
    ∙ ap suc (first_none n (λ k. p (suc k)) (λ k l. h (suc k) (suc-le-suc l)))

-- only i passes
one_first : (b : Bool) (k i : ℕ) → (b ≡ true → ⊥) → k ≡ i → first_or b (suc k) ≡ suc i
one_first true k i h e = absurd (h refl)
one_first false k i h e = ap suc e

pub first_only : (n : ℕ) (p : ℕ → Bool) (i : ℕ) → i < n → p i ≡ true → ((k : ℕ) → k < n → p k ≡ true → k ≡ i) → first_to n p ≡ i
unfolding first_to
first_only zero p i l t h = absurd (omega arith)
first_only (suc n) p zero l t h = ap (λ (b : Bool). first_or b (suc (first_to n (λ k. p (suc k))))) t
first_only (suc n) p (suc i) l t h =
    one_first (p 0) (first_to n (λ k. p (suc k))) i
    (λ (e : p 0 ≡ true). let z : 0 ≡ suc i = h 0 (suc-le-suc zero-le) e in omega arith)
    (first_only n (λ k. p (suc k)) i (le_of_suc-le-suc l) t (λ k m s. let f : suc k ≡ suc i = h (suc k) (suc-le-suc m) s in omega arith))
