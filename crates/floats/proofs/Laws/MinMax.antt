-- min, max and clamp, over values that fit one format. minimumNumber picks the value with the least key, and a key tells all values
-- apart, zeros of unlike signs too: so it commutes, and gives one of the two operands. maximumNumber is the same with the signs changed. Assumes nothing.
use mathlib.Core.Path.{◌≡◌, refl, sym, ap, ap₂, ◌∙◌, subst}
use mathlib.Core.Logic.{◌⊎◌, inl, inr}
use mathlib.Core.Bool.{Bool, true, false, not, cond, ◌&&◌, ◌||◌}
use Prim.Native.Nat.{ℕ, zero, suc, ◌+◌, ◌*◌, ◌≤◌, ◌<◌, min, max}
use native.Mathlib.Nat.{le_of_eq}
use native.Mathlib.Omega.{arith}
use borrow.Author.Tests.{le-leb, lt-leb, leb-true, leb-false}
use lib.Dec.{T, leb}
use lib.Ieee.{Float, nan, inf, fin, Format, neg, lt, le, fits, is_nan}
use lib.Ieee.Fits.{neg-fits, cond-fits}
use Rattle.floats.specs.Leaves.{negative, with_sign, abs, minimum_number, maximum_number, clamp}
use Rattle.floats.specs.Values.{Alike, Number}
use Rattle.floats.specs.Height.{mid, height}
use Rattle.floats.proofs.Nan.{nan_is}
use Rattle.floats.proofs.Laws.Signs.{neg_neg, lt_neg, le_neg}
use Rattle.floats.proofs.Laws.Order.{le→≤, lt→<, nlt→≤, neg_nan, neg_number, lt_numbers, le_numbers, number}
use Rattle.floats.proofs.Laws.Height.{height_top, height_neg, height_same}

-- ---- picking by a key
abbrev pub least : (Float → ℕ) → Float → Float → Float
least K x y = cond (leb (K x) (K y)) x y

module _ (K : Float → ℕ) (x y : Float) (inj : K x ≡ K y → x ≡ y) where
  least_comm : least K x y ≡ least K y x
  least_comm = go (leb (K x) (K y)) (leb (K y) (K x)) refl refl
    where
      go : (a b : Bool) → leb (K x) (K y) ≡ a → leb (K y) (K x) ≡ b → cond a x y ≡ cond b y x
      go true true p q = inj (omega (arith, leb-true (K x) (K y) p, leb-true (K y) (K x) q))
      go true false p q = refl
      go false true p q = refl
      go false false p q = absurd (omega (arith, leb-false (K x) (K y) p, leb-false (K y) (K x) q))

-- ---- the key: by height, and -0 below +0. A NaN is above all
bit : Float → ℕ
bit x = cond (negative x) 0 1

min_key : Format → Float → ℕ
min_key f x = 2 * height f x + bit x

bit_is : (x : Float) (b : Bool) → negative x ≡ b → bit x ≡ cond b 0 1
unfolding bit
bit_is x b e = ap (λ (z : Bool). cond z 0 1) e

bit_le : (x : Float) → bit x ≤ 1
unfolding bit
bit_le x = go (negative x)
  where
    go : (b : Bool) → cond b 0 1 ≤ 1
    go true = omega arith
    go false = omega arith

same_bit : (x y : Float) → bit x ≡ bit y → negative x ≡ negative y
unfolding bit
same_bit x y = go (negative x) (negative y)
  where
    go : (a b : Bool) → ◌≡◌ {A = ℕ} (cond a 0 1) (cond b 0 1) → a ≡ b
    go true true e = refl
    go true false e = absurd (omega (arith, e))
    go false true e = absurd (omega (arith, e))
    go false false e = refl

pub resign : (x : Float) → with_sign (negative x) (abs x) ≡ x
unfolding negative with_sign
resign nan = refl
resign (inf s) = refl
resign (fin s m e) = refl

-- values that are alike and have one sign are equal
pub alike_signed : (x y : Float) → Alike x y → negative x ≡ negative y → x ≡ y
alike_signed x y (inl e) h = e
alike_signed x y (inr z) h = sym (resign x) ∙ ap₂ with_sign h (z.0 ∙ sym z.1) ∙ resign y

min_key_same : (f : Format) (x y : Float) → T (fits f x) → T (fits f y) → min_key f x ≡ min_key f y → x ≡ y
unfolding min_key
min_key_same f x y p q h =
    let a = bit_le x in
    let b = bit_le y in
    alike_signed x y (height_same f x y p q (omega (arith, h))) (same_bit x y (omega (arith, h)))

nan_height : (f : Format) (x : Float) → is_nan x ≡ true → height f x ≡ suc (mid f + mid f)
unfolding height
nan_height f x e = ap (height f) (nan_is x e)

number_height : (f : Format) (x : Float) → T (fits f x) → is_nan x ≡ false → height f x ≤ mid f + mid f
number_height f x p e = height_top f x p (number f x p e).no_nan

-- the definitions, by the keys
min_is : (f : Format) (x y : Float) → T (fits f x) → T (fits f y) → minimum_number x y ≡ least (min_key f) x y
unfolding minimum_number min_key
min_is f x y p q = go (is_nan x) (is_nan y) (lt x y) (lt y x) (negative x) (negative y) refl refl refl refl refl refl
  where
    yes_x : 2 * height f x + bit x ≤ 2 * height f y + bit y → x ≡ cond (leb (2 * height f x + bit x) (2 * height f y + bit y)) x y
    yes_x h = simp (le-leb (2 * height f x + bit x) (2 * height f y + bit y) h)

    yes_y : 2 * height f y + bit y < 2 * height f x + bit x → y ≡ cond (leb (2 * height f x + bit x) (2 * height f y + bit y)) x y
    yes_y h = simp (lt-leb (2 * height f x + bit x) (2 * height f y + bit y) h)

    go : (a b c d s t : Bool) → is_nan x ≡ a → is_nan y ≡ b → lt x y ≡ c → lt y x ≡ d → negative x ≡ s → negative y ≡ t
        → cond a y (cond b x (cond c x (cond d y (cond s x y)))) ≡ cond (leb (2 * height f x + bit x) (2 * height f y + bit y)) x y
    go true true c d s t u v w z i j = (nan_is y v ∙ sym (nan_is x u)) ∙ yes_x (le_of_eq (ap (min_key f) (nan_is x u ∙ sym (nan_is y v))))
    go true false c d s t u v w z i j = yes_y (omega (arith, nan_height f x u, number_height f y q v, bit_le y))
    go false true c d s t u v w z i j = yes_x (omega (arith, nan_height f y v, number_height f x p u, bit_le x))
    go false false true d s t u v w z i j = yes_x (omega (arith, lt→< f x y (number f x p u) (number f y q v) w, bit_le x))
    go false false false true s t u v w z i j = yes_y (omega (arith, lt→< f y x (number f y q v) (number f x p u) z, bit_le y))
    go false false false false true t u v w z i j = yes_x (omega (arith, nlt→≤ f y x (number f y q v) (number f x p u) z, bit_is x true i))
    go false false false false false true u v w z i j = yes_y (omega (arith, nlt→≤ f x y (number f x p u) (number f y q v) w, bit_is x false i, bit_is y true j))
    go false false false false false false u v w z i j =
        let e : x ≡ y = min_key_same f x y p q (omega (arith, nlt→≤ f x y (number f x p u) (number f y q v) w, nlt→≤ f y x (number f y q v) (number f x p u) z, bit_is x false i, bit_is y false j)) in
        sym e ∙ yes_x (le_of_eq (ap (min_key f) e))

-- ---- the laws
pub min_fits : (f : Format) (x y : Float) → T (fits f x) → T (fits f y) → T (fits f (minimum_number x y))
min_fits f x y p q = subst (λ (v : Float). T (fits f v)) (sym (min_is f x y p q)) (cond-fits f (leb (min_key f x) (min_key f y)) x y p q)

pub min_comm_f : (f : Format) (x y : Float) → T (fits f x) → T (fits f y) → minimum_number x y ≡ minimum_number y x
min_comm_f f x y p q = min_is f x y p q ∙ least_comm (min_key f) x y (min_key_same f x y p q) ∙ sym (min_is f y x q p)

-- one of the two operands, at the lower height. A NaN's height is above all others, so this holds for NaNs as well
pub min_height : (f : Format) (x y : Float) → T (fits f x) → T (fits f y) → height f (minimum_number x y) ≡ min (height f x) (height f y)
unfolding min_key
min_height f x y p q = ap (height f) (min_is f x y p q) ∙ go (leb (min_key f x) (min_key f y)) refl
  where
    go : (b : Bool) → leb (min_key f x) (min_key f y) ≡ b → height f (cond b x y) ≡ min (height f x) (height f y)
    go true e = omega (arith, leb-true (min_key f x) (min_key f y) e, bit_le x, bit_le y)
    go false e = omega (arith, leb-false (min_key f x) (min_key f y) e, bit_le x, bit_le y)

pub min_one : (x y : Float) → (minimum_number x y ≡ x) ⊎ (minimum_number x y ≡ y)
unfolding minimum_number
min_one x y = go (is_nan x) (is_nan y) (lt x y) (lt y x) (negative x)
  where
    go : (a b c d s : Bool) → (cond a y (cond b x (cond c x (cond d y (cond s x y)))) ≡ x) ⊎ (cond a y (cond b x (cond c x (cond d y (cond s x y)))) ≡ y)
    go true b c d s = inr refl
    go false true c d s = inl refl
    go false false true d s = inl refl
    go false false false true s = inr refl
    go false false false false true = inl refl
    go false false false false false = inr refl

-- the first operand, where it is no higher and the second has no sign
pub min_left : (f : Format) (x y : Float) → T (fits f x) → T (fits f y) → negative y ≡ false → height f x ≤ height f y → minimum_number x y ≡ x
unfolding min_key
min_left f x y p q n h = min_is f x y p q ∙ ap (λ (b : Bool). cond b x y) (le-leb (min_key f x) (min_key f y) (omega (arith, bit_le x, bit_is y false n)))

-- ---- a change of signs turns max into min. Nothing is asked of the operands
-- by one choice
first_of : {A : Type 0} (a b n : Bool) (x y : A) → cond ((a || false) || (not b && n)) x y ≡ cond a x (cond b y (cond n x y))
first_of true b n x y = refl
first_of false true n x y = refl
first_of false false true x y = refl
first_of false false false x y = refl

min_first : (x y : Float) → cond ((lt x y || is_nan y) || (not (lt y x) && negative x)) x y ≡ minimum_number x y
unfolding minimum_number is_nan negative lt
min_first nan nan = refl
min_first nan (inf t) = refl
min_first nan (fin t n d) = refl
min_first (inf s) nan = refl
min_first (inf s) (inf t) = first_of (lt (inf s) (inf t)) (lt (inf t) (inf s)) (negative (inf s)) (inf s) (inf t)
min_first (inf s) (fin t n d) = first_of (lt (inf s) (fin t n d)) (lt (fin t n d) (inf s)) (negative (inf s)) (inf s) (fin t n d)
min_first (fin s m e) nan = refl
min_first (fin s m e) (inf t) = first_of (lt (fin s m e) (inf t)) (lt (inf t) (fin s m e)) (negative (fin s m e)) (fin s m e) (inf t)
min_first (fin s m e) (fin t n d) = first_of (lt (fin s m e) (fin t n d)) (lt (fin t n d) (fin s m e)) (negative (fin s m e)) (fin s m e) (fin t n d)

pub min_told : (x y : Float) (unordered signed b : Bool) → unordered ≡ is_nan y → signed ≡ negative x → ((lt x y || unordered) || (not (lt y x) && signed)) ≡ b → cond b x y ≡ minimum_number x y
min_told x y u s b eu es e =
    ap (λ (c : Bool). cond c x y) (sym e) ∙ ap₂ (λ (p q : Bool). cond ((lt x y || p) || (not (lt y x) && q)) x y) eu es ∙ min_first x y

pub neg_negative : (x : Float) → is_nan x ≡ false → negative (neg x) ≡ not (negative x)
unfolding is_nan neg negative
neg_negative nan e = absurd (subst T e tt)
neg_negative (inf s) e = refl
neg_negative (fin s m d) e = refl

pub min_neg : (x y : Float) → minimum_number (neg x) (neg y) ≡ neg (maximum_number x y)
unfolding minimum_number maximum_number
min_neg x y = simp (lt_neg, neg_nan) (go (is_nan x) (is_nan y) (lt y x) (lt x y) (negative x) refl refl)
  where
    go : (a b c d s : Bool) → is_nan x ≡ a → negative x ≡ s
        → cond a (neg y) (cond b (neg x) (cond c (neg x) (cond d (neg y) (cond (negative (neg x)) (neg x) (neg y))))) ≡ neg (cond a y (cond b x (cond c x (cond d y (cond s y x)))))
    go true b c d s u v = refl
    go false true c d s u v = refl
    go false false true d s u v = refl
    go false false false true s u v = refl
    go false false false false true u v = simp (neg_negative x u ∙ ap not v)
    go false false false false false u v = simp (neg_negative x u ∙ ap not v)

-- ---- so max has min's laws
pub max_is : (x y : Float) → maximum_number x y ≡ neg (minimum_number (neg x) (neg y))
max_is x y = sym (neg_neg (maximum_number x y)) ∙ ap neg (sym (min_neg x y))

pub max_fits : (f : Format) (x y : Float) → T (fits f x) → T (fits f y) → T (fits f (maximum_number x y))
max_fits f x y p q = subst (λ (v : Float). T (fits f v)) (sym (max_is x y)) (neg-fits f (minimum_number (neg x) (neg y)) (min_fits f (neg x) (neg y) (neg-fits f x p) (neg-fits f y q)))

pub min_number : (f : Format) (x y : Float) → Number f x → Number f y → Number f (minimum_number x y)
min_number f x y p q = go (min_one x y)
  where
    go : (minimum_number x y ≡ x) ⊎ (minimum_number x y ≡ y) → Number f (minimum_number x y)
    go (inl e) = subst (λ (v : Float). Number f v) (sym e) p
    go (inr e) = subst (λ (v : Float). Number f v) (sym e) q

pub max_height : (f : Format) (x y : Float) → Number f x → Number f y → height f (maximum_number x y) ≡ max (height f x) (height f y)
max_height f x y p q =
    let P = neg_number f x p in
    let Q = neg_number f y q in
    let N = min_number f (neg x) (neg y) P Q in
    ap (height f) (max_is x y)
    ∙ omega (arith, height_neg f (minimum_number (neg x) (neg y)) N.fit N.no_nan, min_height f (neg x) (neg y) P.fit Q.fit, height_neg f x p.fit p.no_nan, height_neg f y q.fit q.no_nan, height_top f x p.fit p.no_nan, height_top f y q.fit q.no_nan)

-- ---- clamp turns with the signs, whatever the bounds are
pub clamp_turned : (f : Format) (x lo hi : Float) → T (fits f x) → T (fits f lo) → T (fits f hi) → clamp (neg x) (neg hi) (neg lo) ≡ neg (clamp x lo hi)
unfolding clamp
clamp_turned f x lo hi p q r = simp (le_neg, lt_neg) (go (le lo hi) (lt hi x) (lt x lo) refl refl refl)
  where
    crossed : le lo hi ≡ true → lt hi x ≡ true → lt x lo ≡ true → ⊥
    crossed u v w =
        let L = number f lo q (le_numbers lo hi u).0 in
        let R = number f hi r (le_numbers lo hi u).1 in
        let X = number f x p (lt_numbers hi x v).1 in
        omega (arith, le→≤ f lo hi L R u, lt→< f hi x R X v, lt→< f x lo X L w)

    go : (a b c : Bool) → le lo hi ≡ a → lt hi x ≡ b → lt x lo ≡ c → cond a (cond b (neg hi) (cond c (neg lo) (neg x))) (neg x) ≡ neg (cond a (cond c lo (cond b hi x)) x)
    go false b c u v w = refl
    go true true true u v w = absurd (crossed u v w)
    go true true false u v w = refl
    go true false true u v w = refl
    go true false false u v w = refl

-- the same for bounds that are each other's negative
pub clamp_neg : (f : Format) (x h : Float) → T (fits f x) → T (fits f h) → clamp (neg x) (neg h) h ≡ neg (clamp x (neg h) h)
clamp_neg f x h p q = ap (clamp (neg x) (neg h)) (sym (neg_neg h)) ∙ clamp_turned f x (neg h) h p (neg-fits f h q) q

-- ---- which values fit: the sign makes no difference
pub sign_fits : (f : Format) (t : Bool) (x : Float) → T (fits f x) → T (fits f (with_sign t x))
unfolding fits with_sign
sign_fits f t nan h = h
sign_fits f t (inf s) h = h
sign_fits f t (fin s zero e) h = h
sign_fits f t (fin s (suc m) e) h = h
