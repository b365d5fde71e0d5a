-- The sum of two squares is no NaN and has no sign, so that its pattern is at most the infinity's.
use Rattle.std.proofs.Common.{◌≡◌, ℕ, zero, suc, ◌+◌, ◌*◌, ◌/◌, ◌%◌, ◌^◌, ◌<◌, ◌≤◌, Bool, true, false, cond, not, T, eqb, ltb, sym, refl, ◌∙◌, subst, true≢false, lt_of_not-le, le-leb}
use lib.Ieee.{Float, nan, inf, fin, Format, prec, emax, low, hid, top, ones, up, down, unlike, odd, units, round, sum, add, mul, is_nan, fits, of_fields, of_bits, to_bits}
use lib.Ieee.Fits.{round_is}
use lib.Ieee.Bits.{of_bits-to_bits}

-- no NaN, and with the sign off
abbrev pub Plus : Float → Type 0
Plus nan = ⊥
Plus (inf t) = t ≡ false
Plus (fin t m e) = t ≡ false

pub no_nan : (x : Float) → Plus x → T (not (is_nan x))
unfolding is_nan
no_nan nan p = p
no_nan (inf t) p = tt
no_nan (fin t m e) p = tt

odd_plus : (d q k l : ℕ) → Plus (odd d false q k l)
unfolding odd
odd_plus d zero k l = refl
odd_plus d (suc q) k l = refl

units_plus : (f : Format) (q k : ℕ) → Plus (units f false q k)
unfolding units
units_plus f q k = go (ltb (q * 2 ^ k) (2 ^ (low f + suc (emax f))))
  where
    go : (b : Bool) → Plus (cond b (odd (suc (prec f)) false q k (low f)) (inf false))
    go true = odd_plus (suc (prec f)) q k (low f)
    go false = refl

pub round_plus : (f : Format) (a c : ℕ) → Plus (round f false a c)
round_plus f a c = subst Plus (sym (round_is f false a c)) (units_plus f _ _)

pub alike : (s : Bool) → unlike s s ≡ false
alike true = refl
alike false = refl

pub square_plus : (f : Format) (x : Float) → T (not (is_nan x)) → Plus (mul f x x)
unfolding mul is_nan
square_plus f nan n = n
square_plus f (inf s) n = alike s
square_plus f (fin s m e) n = subst (λ (t : Bool). Plus (round f t (m * up e * (m * up e)) (down e * down e))) (sym (alike s)) (round_plus f _ _)

pub add_plus : (f : Format) (x y : Float) → Plus x → Plus y → Plus (add f x y)
unfolding add
add_plus f nan y p q = p
add_plus f (inf s) nan p q = q
add_plus f (inf true) (inf t) p q = absurd (true≢false p)
add_plus f (inf false) (inf true) p q = absurd (true≢false q)
add_plus f (inf false) (inf false) p q = refl
add_plus f (inf s) (fin t n d) p q = p
add_plus f (fin s m e) nan p q = q
add_plus f (fin s m e) (inf t) p q = q
add_plus f (fin true m e) (fin t n d) p q = absurd (true≢false p)
add_plus f (fin false m e) (fin true n d) p q = absurd (true≢false q)
add_plus f (fin false m e) (fin false n d) p q = unfold sum in round_plus f _ _

-- ---- a pattern with the sign's bit on is not read as such a value
abbrev Signed : Float → Type 0
Signed nan = Unit {0}
Signed (inf t) = t ≡ true
Signed (fin t m e) = t ≡ true

odd_signed : (d q k l : ℕ) → Signed (odd d true q k l)
unfolding odd
odd_signed d zero k l = refl
odd_signed d (suc q) k l = refl

fields_signed : (f : Format) (x t : ℕ) → Signed (of_fields f true x t)
unfolding of_fields
fields_signed f zero t = odd_signed (prec f) t 0 (low f)
fields_signed f (suc x) t = go (eqb (suc x) (ones f)) (eqb t 0)
  where
    go : (a b : Bool) → Signed (cond a (cond b (inf true) nan) (odd (prec f) true (hid f + t) x (low f)))
    go true true = refl
    go true false = tt
    go false b = odd_signed (prec f) (hid f + t) x (low f)

bits_signed : (f : Format) (b : ℕ) → top f ≤ b → Signed (of_bits f b)
unfolding of_bits
bits_signed f b h = subst (λ (s : Bool). Signed (of_fields f s (b % top f / hid f) (b % hid f))) (sym (le-leb (top f) b h)) (fields_signed f (b % top f / hid f) (b % hid f))

not_both : (x : Float) → Plus x → Signed x → ⊥
not_both nan p q = p
not_both (inf t) p q = true≢false (sym q ∙ p)
not_both (fin t m e) p q = true≢false (sym q ∙ p)

pub plus_bits : (f : Format) (x : Float) → T (fits f x) → Plus x → to_bits f x < top f
plus_bits f x h p = lt_of_not-le (λ (g : top f ≤ to_bits f x). not_both x p (subst Signed (of_bits-to_bits f x h) (bits_signed f (to_bits f x) g)))
