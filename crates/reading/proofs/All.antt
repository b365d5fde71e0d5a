-- Lists all of whose elements have a property, lists without repeats, and lists whose elements rise by a key. Assumes nothing.
use mathlib.Core.Path.{◌≡◌, refl, sym, ◌∙◌}
use mathlib.Core.Bool.{Bool, true, false}
use mathlib.Core.List.{List, [], ◌∷◌, ◌++◌, map}
use Prim.Native.Nat.{ℕ, zero, suc, ◌+◌, ◌≤◌, ◌<◌, zero-le, suc-le-suc}
use native.Mathlib.Nat.{le_step, le_refl, le_trans, le_of_eq, le-add_right, add-zero}
use native.Mathlib.Omega.{arith}
use lib.ListN.{length, get_or}
use Rattle.lists.specs.Gather.{flat_to, only_if}
use Rattle.lists.specs.Table.{table}

-- ---- each element has the property
pub data All {A : Type 0} (P : A → Type 0) : List A → Type 0 where
  no_more : All P []
  one_more : {x : A} {l : List A} → P x → All P l → All P (x ∷ l)

module _ {A : Type 0} {P : A → Type 0} where
  pub all_append : {k l : List A} → All P k → All P l → All P (k ++ l)
  all_append no_more hl = hl
  all_append (one_more h hk) hl = one_more h (all_append hk hl)

  pub all_only : (b : Bool) (x : A) → (b ≡ true → P x) → All P (only_if b x)
  all_only true x h = one_more (h refl) no_more
  all_only false x h = no_more

  pub all_flat : (n : ℕ) (f : ℕ → List A) → ((i : ℕ) → i < n → All P (f i)) → All P (flat_to n f)
  unfolding flat_to
  all_flat zero f h = no_more
  all_flat (suc n) f h = all_append (all_flat n f (λ i l. h i (le_step l))) (h n (le_refl (suc n)))

  pub all_table : (n : ℕ) (f : ℕ → A) → ((i : ℕ) → i < n → P (f i)) → All P (table n f)
  all_table zero f h = no_more
  all_table (suc n) f h = one_more (h 0 (suc-le-suc zero-le)) (all_table n (λ k. f (suc k)) (λ i l. h (suc i) (suc-le-suc l)))

  -- what follows from the property
  pub all_so : {Q : A → Type 0} → ((x : A) → P x → Q x) → {l : List A} → All P l → All Q l
  all_so g no_more = no_more
  all_so g (one_more {x} h hs) = one_more (g x h) (all_so g hs)

-- of what a function makes of the elements
pub all_map : {A B : Type 0} {P : A → Type 0} {Q : B → Type 0} (f : A → B) → ((x : A) → P x → Q (f x)) → {l : List A} → All P l → All Q (map f l)
all_map f g no_more = no_more
all_map f g (one_more {x} h hs) = one_more (g x h) (all_map f g hs)

-- ---- no key twice
pub data Distinct {A : Type 0} (key : A → ℕ) : List A → Type 0 where
  nothing : Distinct key []
  another : {x : A} {l : List A} → All (λ y. key y ≡ key x → ⊥) l → Distinct key l → Distinct key (x ∷ l)

pub distinct_table : {A : Type 0} {key : A → ℕ} (n : ℕ) (f : ℕ → A) → ((i j : ℕ) → i < n → j < n → key (f i) ≡ key (f j) → i ≡ j) → Distinct key (table n f)
distinct_table zero f h = nothing
distinct_table {A} {key} (suc n) f h =
    another (all_table n (λ k. f (suc k)) (λ i l e. differ i (h (suc i) 0 (suc-le-suc l) (suc-le-suc zero-le) e)))
    (distinct_table n (λ k. f (suc k)) (λ i j l m e. less i j (h (suc i) (suc j) (suc-le-suc l) (suc-le-suc m) e)))
  where
    differ : (i : ℕ) → suc i ≡ 0 → ⊥
    differ i e = omega arith

    less : (i j : ℕ) → suc i ≡ suc j → i ≡ j
    less i j e = omega arith

-- ---- keys that rise, by at least the step, from lo on and below hi + 1
pub data Chain {A : Type 0} (key : A → ℕ) (step : ℕ) : ℕ → ℕ → List A → Type 0 where
  last : {lo hi : ℕ} → lo ≤ hi → Chain key step lo hi []
  next : {lo hi : ℕ} {x : A} {l : List A} → lo ≤ key x → Chain key step (key x + step) hi l → Chain key step lo hi (x ∷ l)

module _ {A : Type 0} {key : A → ℕ} {step : ℕ} where
  -- it may begin lower
  pub chain_lower : {lo lo' hi : ℕ} {l : List A} → lo' ≤ lo → Chain key step lo hi l → Chain key step lo' hi l
  chain_lower g (last h) = last (le_trans g h)
  chain_lower g (next h c) = next (le_trans g h) c

  pub chain_append : {lo mid hi : ℕ} {k l : List A} → Chain key step lo mid k → Chain key step mid hi l → Chain key step lo hi (k ++ l)
  chain_append (last h) d = chain_lower h d
  chain_append (next h c) d = next h (chain_append c d)

  -- it may end higher
  pub chain_higher : {lo hi hi' : ℕ} {l : List A} → hi ≤ hi' → Chain key step lo hi l → Chain key step lo hi' l
  chain_higher g (last h) = last (le_trans h g)
  chain_higher g (next h c) = next h (chain_higher g c)

  -- what lies in it
  chain_ends : {lo hi : ℕ} {l : List A} → Chain key step lo hi l → lo ≤ hi
  chain_ends (last h) = h
  chain_ends (next {x = x} h c) = le_trans h (le_trans (le-add_right (key x) step) (chain_ends c))

  pub chain_within : {lo hi : ℕ} {l : List A} → Chain key step lo hi l → All (λ x. (lo ≤ key x) × (key x + step ≤ hi)) l
  chain_within (last h) = no_more
  chain_within (next {x = x} h c) = one_more (h, chain_ends c) (all_so (λ y g. (le_trans h (le_trans (le-add_right (key x) step) g.0), g.1)) (chain_within c))

  -- one element, or none
  pub chain_only : (b : Bool) (x : A) {lo hi : ℕ} → lo ≤ key x → key x + step ≤ hi → Chain key step lo hi (only_if b x)
  chain_only true x g h = next g (last h)
  chain_only false x {lo} {hi} g h = last (le_trans g (le_trans (le-add_right (key x) step) h))

  -- parts that lie between marks
  pub chain_flat : (n : ℕ) (f : ℕ → List A) (mark : ℕ → ℕ) → ((i : ℕ) → i < n → Chain key step (mark i) (mark (suc i)) (f i)) → Chain key step (mark 0) (mark n) (flat_to n f)
  unfolding flat_to
  chain_flat zero f mark h = last (le_refl (mark 0))
  chain_flat (suc n) f mark h = chain_append (chain_flat n f mark (λ i l. h i (le_step l))) (h n (le_refl (suc n)))

-- elements with one key
pub chain_level : {A : Type 0} {key : A → ℕ} (n : ℕ) {l : List A} → All (λ x. key x ≡ n) l → Chain key 0 n n l
chain_level n no_more = last (le_refl n)
chain_level {A} {key} n (one_more {x} {l} h hs) = next (le_of_eq (sym h)) (chain_lower (le_of_eq (add-zero (key x) ∙ h)) (chain_level n hs))

-- ---- tables of what a function makes of numbers and their places
module _ {B : Type 0} where
  -- the element for each number, by the number and its place
  abbrev pub each : (ℕ → ℕ → B) → List ℕ → List B
  each f ns = table (length ns) (λ k. f (get_or ns k 0) k)

  pub all_each : {P : ℕ → Type 0} {Q : B → Type 0} (f : ℕ → ℕ → B) {ns : List ℕ} → ((n k : ℕ) → P n → k < length ns → Q (f n k)) → All P ns → All Q (each f ns)
  all_each f g no_more = no_more
  all_each f g (one_more {x = n} h hs) = one_more (g n 0 h (suc-le-suc zero-le)) (all_each (λ m k. f m (suc k)) (λ m k i l. g m (suc k) i (suc-le-suc l)) hs)

  pub distinct_each : {key : B → ℕ} (f : ℕ → ℕ → B) → ((n k : ℕ) → key (f n k) ≡ n) → {ns : List ℕ} → Distinct (λ n. n) ns → Distinct key (each f ns)
  distinct_each f e nothing = nothing
  distinct_each {key} f e (another {x = n} h hs) =
      another (all_each (λ m k. f m (suc k)) (λ m k d l. λ (g : key (f m (suc k)) ≡ key (f n 0)). d (sym (e m (suc k)) ∙ g ∙ e n 0)) h) (distinct_each (λ m k. f m (suc k)) (λ m k. e m (suc k)) hs)

  pub chain_each : {key : B → ℕ} {step : ℕ} (off : ℕ) (f : ℕ → ℕ → B) → ((n k : ℕ) → key (f n k) ≡ off + n) → {lo hi : ℕ} {ns : List ℕ} → Chain (λ n. n) step lo hi ns → Chain key step (off + lo) (off + hi) (each f ns)
  chain_each off f e (last {lo} {hi} h) = last {lo = off + lo} {hi = off + hi} (omega arith)
  chain_each {key} {step} off f e (next {x = n} {l = ns} h c) = next (up h) (chain_lower (down (e n 0)) (chain_each off (λ m k. f m (suc k)) (λ m k. e m (suc k)) c))
    where
      up : {lo : ℕ} → lo ≤ n → off + lo ≤ key (f n 0)
      up h = omega (arith, e n 0)

      down : key (f n 0) ≡ off + n → key (f n 0) + step ≤ off + (n + step)
      down d = omega arith
