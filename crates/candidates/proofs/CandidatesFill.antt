-- A list whose first place is stored to, and whose rest is then filled from its front, by turns of two puts. Assumes nothing.
use mathlib.Core.Path.{◌≡◌, sym, ap, ap₂, subst, ◌∙◌}
use mathlib.Core.Bool.{Bool, true, false, true≢false}
use mathlib.Core.List.{List, [], ◌∷◌, ◌++◌, append-nil, append_assoc}
use Prim.Native.Nat.{ℕ, suc, ◌+◌, ◌-◌, ◌≤◌, ◌<◌}
use native.Mathlib.Nat.{le_trans}
use native.Mathlib.Numerals.{add-one}
use native.Mathlib.Omega.{arith}
use lib.ListN.{length, take, drop, set, length-append, length-drop}
use lib.Seq.{take_at}
use lib.Ieee.{Float, le}
use Rattle.lists.specs.Gather.{flat_to, only_if}
use Rattle.lists.specs.Put.{count_if, put_if, fronted}
use Rattle.lists.proofs.Gather.{flat_le}
use Rattle.lists.proofs.Part.{part_back}
use Rattle.lists.proofs.Put.{put_one}
use Rattle.floats.specs.Arithmetic.{◌+₃₂◌, ◌-₃₂◌, ◌*₃₂◌}
use Rattle.floats.specs.Leaves.{of_count}
use Rattle.spacing.specs.Spacing.{places_at}

-- ---- room
-- a count does not fall
no_less : (b : Bool) (n : ℕ) → n ≤ count_if b n
no_less true n = omega arith
no_less false n = omega arith

-- one put has room where two have
first_room : (a b : Bool) (n len : ℕ) → count_if b (count_if a n) ≤ len → count_if a n ≤ len
first_room a b n len h = le_trans (no_less b (count_if a n)) h

-- what a put asks
room : (b : Bool) (n len : ℕ) → count_if b n ≤ len → (b ≡ true → n < len) × (n ≤ len)
room true n len h = (λ t. omega arith, omega arith)
room false n len h = (λ t. absurd (true≢false (sym t)), h)

-- of two, what the first one asks
pub rooms : (a b : Bool) (n len : ℕ) → count_if b (count_if a n) ≤ len → (a ≡ true → n < len) × (n ≤ len)
rooms a b n len h = room a n len (first_room a b n len h)

-- and the second of two, on what the first one left
pub room_after : (b : Bool) (n n' len len' : ℕ) → n' ≡ n → len' ≡ len → count_if b n ≤ len → (b ≡ true → n' < len') × (n' ≤ len')
room_after b n n' len len' e l h = room b n' len' (subst (λ (k : ℕ). count_if b k ≤ len') (sym e) (subst (λ (k : ℕ). count_if b n ≤ k) (sym l) h))

-- what a turn adds, by its number as the code has it in hand
pub turn_adds : (first min max step v : Float) (k : ℕ) → v ≡ of_count (k + 1)
    → places_at first min max step k ≡ only_if (le min (first -₃₂ v *₃₂ step)) (first -₃₂ v *₃₂ step) ++ only_if (le (first +₃₂ v *₃₂ step) max) (first +₃₂ v *₃₂ step)
turn_adds first min max step v k d =
    sym (ap (λ (x : Float). only_if (le min (first -₃₂ x *₃₂ step)) (first -₃₂ x *₃₂ step) ++ only_if (le (first +₃₂ x *₃₂ step) max) (first +₃₂ x *₃₂ step)) (rw add-one at d))

module _ {A : Type 0} where
  -- ---- puts at the end of the front
  -- the count after one put
  count_some : (l : List A) (a : Bool) (x : A) (n : ℕ) → n ≡ length l → count_if a n ≡ length (l ++ only_if a x)
  count_some l true x n e = ap (λ (k : ℕ). k + 1) e ∙ sym (length-append l (x ∷ []))
  count_some l false x n e = e ∙ ap length (sym (append-nil l))

  -- the list after one put
  put_some : (l s cur : List A) (a : Bool) (x : A) (n : ℕ) → count_if a n ≤ length s → cur ≡ fronted l s → n ≡ length l → put_if a cur n x ≡ fronted (l ++ only_if a x) s
  put_some l s cur true x n h e en = ap₂ (λ (t : List A) (k : ℕ). set t k x) e en ∙ put_one l s x (omega (arith, h, en))
  put_some l s cur false x n h e en = e ∙ ap (λ (t : List A). fronted t s) (sym (append-nil l))

  -- a turn of two puts
  module _ (f : ℕ → List A) (a b : Bool) (x y : A) (i n : ℕ) (adds : f i ≡ only_if a x ++ only_if b y) (en : n ≡ length (flat_to i f)) where
    -- what stands at the front after it
    grown : (flat_to i f ++ only_if a x) ++ only_if b y ≡ flat_to (i + 1) f
    unfolding flat_to
    grown = append_assoc (flat_to i f) (only_if a x) (only_if b y) ∙ ap (λ (t : List A). flat_to i f ++ t) (sym adds) ∙ ap (λ (k : ℕ). flat_to k f) (sym (add-one i))

    -- the count after it
    pub count_two : count_if b (count_if a n) ≡ length (flat_to (i + 1) f)
    count_two = count_some (flat_to i f ++ only_if a x) b y (count_if a n) (count_some (flat_to i f) a x n en) ∙ ap length grown

    -- where all turns have room, it has
    pub turn_room : (m len : ℕ) → i < m → length (flat_to m f) ≤ len → count_if b (count_if a n) ≤ len
    unfolding flat_to
    turn_room m len l h =
        let longer = ap (λ (k : ℕ). length (flat_to k f)) (add-one i) ∙ length-append (flat_to i f) (f i) in
        omega (arith, count_two, longer, flat_le f i m l)

    -- the list after it
    pub put_two : (s cur next : List A) → count_if b (count_if a n) ≤ length s → cur ≡ fronted (flat_to i f) s → next ≡ put_if b (put_if a cur n x) (count_if a n) y → next ≡ fronted (flat_to (i + 1) f) s
    put_two s cur next h e p =
        p
        ∙ put_some (flat_to i f ++ only_if a x) s (put_if a cur n x) b y (count_if a n) h (put_some (flat_to i f) s cur a x n (first_room a b n (length s) h) e en) (count_some (flat_to i f) a x n en)
        ∙ ap (λ (t : List A). fronted t s) grown

  -- ---- a front
  -- a list keeps its length when its front is replaced
  pub length_fronted : (l s : List A) → length l ≤ length s → length (fronted l s) ≡ length s
  unfolding fronted
  length_fronted l s h = omega (arith, length-append l (drop (length l) s), length-drop (length l) s)

  -- what the whole holds when the rest has come back with l at its front
  pub fill_rest : (s l ys : List A) (x : A) → 0 < length s → ys ≡ fronted l (take (length (set s 0 x) - 1) (drop 1 (set s 0 x)))
      → take 1 (set s 0 x) ++ (ys ++ drop (length (set s 0 x) - 1) (drop 1 (set s 0 x))) ≡ fronted (x ∷ l) s
  unfolding fronted
  fill_rest [] l ys x h e = absurd (omega arith)
  fill_rest (y ∷ s) l ys x h e =
      let next : 1 + length l ≡ suc (length l) = omega arith in
      part_back (x ∷ s) l ys 1 (length l) e ∙ ap (λ (k : ℕ). x ∷ (l ++ drop k (x ∷ s))) next

  -- the filled front, as a part
  pub front_is : (l s out : List A) (n : ℕ) → n ≡ length l → out ≡ fronted l s → take n out ≡ l
  unfolding fronted
  front_is l s out n e f = ap (take n) f ∙ take_at l (drop (length l) s) n (sym e)

  -- and its length
  pub front_length : (l s out : List A) (n : ℕ) → n ≡ length l → out ≡ fronted l s → n ≡ length (take n out)
  front_length l s out n e f = e ∙ sym (ap length (front_is l s out n e f))

  -- the same list with another name for what was put
  pub filled_as : (l answer s out : List A) (n : ℕ) → l ≡ answer → n ≡ length l → out ≡ fronted l s → (n ≡ length answer) × (out ≡ fronted answer s)
  filled_as l answer s out n e a b = (a ∙ ap length e, b ∙ ap (λ (t : List A). fronted t s) e)
