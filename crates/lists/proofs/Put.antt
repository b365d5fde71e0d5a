-- What a loop that puts elements at a front's end keeps, where some turns put one and others none: after i turns the list is
-- `fronted (flat_to i f) s`, and the count is the front's length. It serves a lent slice and a counted array alike. Assumes nothing.
use mathlib.Core.Path.{◌≡◌, refl, sym, ap, subst, ◌∙◌}
use mathlib.Core.Bool.{Bool, true, false}
use mathlib.Core.List.{List, [], ◌∷◌, ◌++◌, append_assoc, append-nil}
use Prim.Native.Nat.{ℕ, suc, ◌+◌, ◌≤◌, ◌<◌}
use native.Mathlib.Nat.{le_antisymm}
use native.Mathlib.Numerals.{add-one}
use lib.ListN.{length, drop, set, length-append}
use lib.Seq.{set_at, drop-cons}
use Rattle.lists.specs.Gather.{flat_to, only_if}
use Rattle.lists.specs.Put.{count_if, fronted, put_if}

module _ {A : Type 0} where
  -- before the loop
  pub fronted_none : (f : ℕ → List A) (s : List A) → s ≡ fronted (flat_to 0 f) s
  unfolding fronted flat_to
  fronted_none f s = refl

  -- a put at the front's end
  pub put_one : (l s : List A) (x : A) → length l < length s → set (fronted l s) (length l) x ≡ fronted (l ++ (x ∷ [])) s
  unfolding fronted
  put_one l s x h =
      ap (λ (t : List A). set (l ++ t) (length l) x) (drop-cons s (length l) x h)
      ∙ set_at l _ (drop (suc (length l)) s) x (length l) refl
      ∙ sym (append_assoc l (x ∷ []) (drop (suc (length l)) s))
      ∙ ap (λ (k : ℕ). (l ++ (x ∷ [])) ++ drop k s) (sym (length-append l (x ∷ []) ∙ add-one (length l)))

  -- a turn: the list and the count after it
  pub put_turn : (f : ℕ → List A) (b : Bool) (x : A) (s cur next : List A) (i n n' : ℕ) → (b ≡ true → n < length s) → f i ≡ only_if b x
      → cur ≡ fronted (flat_to i f) s → n ≡ length (flat_to i f) → next ≡ put_if b cur n x → n' ≡ count_if b n
      → (next ≡ fronted (flat_to (i + 1) f) s) × (n' ≡ length (flat_to (i + 1) f))
  unfolding flat_to
  put_turn f true x s cur next i n n' h fi e en p q =
      let here : length (flat_to i f) < length s = subst (λ (k : ℕ). k < length s) en (h refl) in
      let grown : flat_to (i + 1) f ≡ flat_to i f ++ (x ∷ []) = ap (λ (k : ℕ). flat_to k f) (add-one i) ∙ ap (λ (t : List A). flat_to i f ++ t) fi in (
        p ∙ ap (λ (t : List A). set t n x) e ∙ ap (λ (k : ℕ). set (fronted (flat_to i f) s) k x) en ∙ put_one (flat_to i f) s x here ∙ ap (λ (t : List A). fronted t s) (sym grown),
        q ∙ ap (λ (k : ℕ). k + 1) en ∙ sym (ap length grown ∙ length-append (flat_to i f) (x ∷ [])),
      )
  put_turn f false x s cur next i n n' h fi e en p q =
      let grown : flat_to (i + 1) f ≡ flat_to i f = ap (λ (k : ℕ). flat_to k f) (add-one i) ∙ ap (λ (t : List A). flat_to i f ++ t) fi ∙ append-nil (flat_to i f) in
      (p ∙ e ∙ ap (λ (t : List A). fronted t s) (sym grown), q ∙ en ∙ sym (ap length grown))

  -- the loop's end
  pub put_done : (f : ℕ → List A) (s cur : List A) (k m n : ℕ) → k ≤ m → m ≤ k → cur ≡ fronted (flat_to k f) s → n ≡ length (flat_to k f)
      → (n ≡ length (flat_to m f)) × (cur ≡ fronted (flat_to m f) s)
  put_done f s cur k m n a b e en =
      let same : k ≡ m = le_antisymm a b in
      (en ∙ ap (λ (i : ℕ). length (flat_to i f)) same, e ∙ ap (λ (i : ℕ). fronted (flat_to i f) s) same)
