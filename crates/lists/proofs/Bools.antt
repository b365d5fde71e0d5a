-- Laws on tests. `&&` and `||` evaluate from the left, so each is by cases on the first test. Assumes nothing.
use mathlib.Core.Path.{◌≡◌, refl, sym, ap, subst, ◌∙◌}
use mathlib.Core.Bool.{Bool, true, false, not, ◌&&◌, ◌||◌, true≢false}
use lib.Dec.{T}

-- ---- both of two
pub both : (a b : Bool) → a ≡ true → b ≡ true → (a && b) ≡ true
both true b p q = q
both false b p q = p

pub both_true : (a b : Bool) → (a && b) ≡ true → (a ≡ true) × (b ≡ true)
both_true true b q = (refl, q)
both_true false b q = absurd (true≢false (sym q))

pub left_true : (a b : Bool) → (a && b) ≡ true → a ≡ true
left_true a b q = (both_true a b q).0

pub right_true : (a b : Bool) → (a && b) ≡ true → b ≡ true
right_true a b q = (both_true a b q).1

-- it fails at the second, where the first holds
pub right_false : (a b : Bool) → a ≡ true → (a && b) ≡ false → b ≡ false
right_false true b p q = q
right_false false b p q = absurd (true≢false (sym p))

pub and_swap : (a b : Bool) → (a && b) ≡ (b && a)
and_swap true true = refl
and_swap true false = refl
and_swap false true = refl
and_swap false false = refl

-- two first tests that agree, and two second ones that agree where the first hold
pub both_same : (a b c d : Bool) → a ≡ c → (a ≡ true → b ≡ d) → (a && b) ≡ (c && d)
both_same true b c d e f = f refl ∙ ap (λ (x : Bool). x && d) e
both_same false b c d e f = ap (λ (x : Bool). x && d) e

-- ---- either of two
pub or_left : (a b : Bool) → a ≡ true → (a || b) ≡ true
or_left true b p = refl
or_left false b p = absurd (true≢false (sym p))

pub or_right : (a b : Bool) → b ≡ true → (a || b) ≡ true
or_right true b q = refl
or_right false b q = q

pub neither : (a b : Bool) → (a || b) ≡ false → (a ≡ false) × (b ≡ false)
neither true b q = absurd (true≢false q)
neither false b q = (refl, q)

-- ---- a test and the statement that it holds
pub holds : (b : Bool) → b ≡ true → T b
holds b e = subst T (sym e) tt

pub fails : (b : Bool) → b ≡ false → T (not b)
fails b e = subst (λ (x : Bool). T (not x)) (sym e) tt

-- two tests that imply each other are equal
pub same_test : (a b : Bool) → (a ≡ true → b ≡ true) → (b ≡ true → a ≡ true) → a ≡ b
same_test true true f g = refl
same_test true false f g = sym (f refl)
same_test false true f g = g refl
same_test false false f g = refl

pub same_bool : (a b : Bool) → (T a → T b) → (T b → T a) → a ≡ b
same_bool true true f g = refl
same_bool true false f g = absurd (f tt)
same_bool false true f g = absurd (g tt)
same_bool false false f g = refl

-- what follows from either answer
pub by_test {ℓ} : {C : Type ℓ} (b : Bool) → (b ≡ true → C) → (b ≡ false → C) → C
by_test true f g = f refl
by_test false f g = g refl
