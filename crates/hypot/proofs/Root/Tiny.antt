-- Up to 2 ^ 24 a pattern is its own magnitude, so the nearest pattern to a root is the nearest whole number. No root is a tie: the square of an odd number is no multiple of 4.
use Rattle.std.proofs.Common.{◌≡◌, ℕ, suc, ◌+◌, ◌*◌, ◌/◌, ◌<◌, ◌≤◌, sym, refl, ap, ◌∙◌, subst, ap₂, inl, le_trans, le_of_eq, le_refl, lt_of_lt_of_le, mul-le-mul_right, add-mul, mul-le-mul, lt_of_not-le, mul-add, arith}
use Rattle.hypot.specs.Hypot.{units_of, halfway, square, nearest_root}
use Rattle.hypot.proofs.Root.Units.{units_at_holds, units_lt}
use Rattle.hypot.proofs.Root.Seek.{sq_le, sq_twice}
use Rattle.hypot.proofs.Root.Nearest.{nearest_unique}

own : (b : ℕ) → b ≤ 16777216 → b ≡ units_of b
own b h = one b ∙ sym (units_at_holds 0 b (inl refl) h) ∙ ap units_of (none b)
  where
    one : (b : ℕ) → b ≡ b * 1
    one b = omega arith

    none : (b : ℕ) → 0 * 8388608 + b ≡ b
    none b = omega arith

odd_square : (c : ℕ) → (2 * c + 1) * (2 * c + 1) ≡ 4 * (c * c + c) + 1
odd_square c = join (c * c) ((2 * c) * (2 * c)) ((2 * c + 1) * (2 * c + 1)) (sq_twice c) (add-mul (2 * c) 1 (2 * c + 1) ∙ ap₂ (λ (y z : ℕ). y + z) (mul-add (2 * c) (2 * c) 1) refl)
  where
    join : (q x y : ℕ) → x ≡ 4 * q → y ≡ x + 2 * c * 1 + 1 * (2 * c + 1) → y ≡ 4 * (q + c) + 1
    join q x y e f = omega arith

-- the sum of the squares is at most the square of the sum
pub squares_small : (p q : ℕ) → p + q ≤ 16777216 → p * p + q * q ≤ 281474976710656
squares_small p q h =
    le_trans (both (p * p) ((p + q) * p) (q * q) ((p + q) * q) (mul-le-mul_right p (first p q)) (mul-le-mul_right q (second p q)))
    (le_trans (le_of_eq (sym (mul-add (p + q) p q))) (mul-le-mul h h))
  where
    first : (p q : ℕ) → p ≤ p + q
    first p q = omega arith

    second : (p q : ℕ) → q ≤ p + q
    second p q = omega arith

    both : (a b c d : ℕ) → a ≤ b → c ≤ d → a + c ≤ b + d
    both a b c d k l = omega arith

pub root_small : (t n : ℕ) → t * t ≤ 4 * n → n ≤ 281474976710656 → t ≤ 33554432
root_small t n h l = weak t (lt_of_not-le (λ (g : 33554433 ≤ t). clash (33554433 * 33554433) (t * t) n refl (mul-le-mul g g) h l))
  where
    weak : (t : ℕ) → t < 33554433 → t ≤ 33554432
    weak t g = omega arith

    clash : (a b n : ℕ) → a ≡ 1125899973951489 → a ≤ b → b ≤ 4 * n → n ≤ 281474976710656 → ⊥
    clash a b n e p q r = omega arith

whole : (n t : ℕ) → n ≤ 281474976710656 → t * t ≤ 4 * n → 4 * n < (t + 1) * (t + 1) → (t + 1) / 2 ≡ nearest_root n
unfolding halfway
whole n t s lo hi = nearest_unique n b (record {
  range = far b b_small;
  lower = λ c e. inl (subst (λ (h : ℕ). square h < 4 * n) (point c e) (strict (c * c) (t * t) ((2 * c + 1) * (2 * c + 1)) c (odd_square c) (sq_le (2 * c + 1) t (before t c e)) lo));
  upper = λ _. inl (lt_of_lt_of_le hi (sq_le (t + 1) (halfway b) (le_trans (after t) (above (units_of b) (units_of (suc b)) (own b b_small) (units_lt b (suc b) (le_refl (suc b)))))));
})
  where
    b : ℕ
    b = (t + 1) / 2

    halved : (t : ℕ) → t ≤ 33554432 → (t + 1) / 2 ≤ 16777216
    halved t h = omega arith

    b_small : b ≤ 16777216
    b_small = halved t (root_small t n lo s)

    far : (b : ℕ) → b ≤ 16777216 → b ≤ 0x7f80_0000
    far b h = omega arith

    before : (t c : ℕ) → (t + 1) / 2 ≡ suc c → 2 * c + 1 ≤ t
    before t c e = omega arith

    after : (t : ℕ) → t + 1 ≤ 2 * ((t + 1) / 2) + 1
    after t = omega arith

    above : (u v : ℕ) → b ≡ u → u < v → 2 * b + 1 ≤ u + v
    above u v e l = omega arith

    strict : (q a x : ℕ) (c : ℕ) → x ≡ 4 * (q + c) + 1 → x ≤ a → a ≤ 4 * n → x < 4 * n
    strict q a x c e k l = omega arith

    point : (c : ℕ) → b ≡ suc c → 2 * c + 1 ≡ units_of c + units_of (suc c)
    point c e = two c ∙ ap₂ (λ (x y : ℕ). x + y) (own c (down b c e b_small)) (own (suc c) (down' b c e b_small))
      where
        two : (c : ℕ) → 2 * c + 1 ≡ c + suc c
        two c = omega arith

        down : (b c : ℕ) → b ≡ suc c → b ≤ 16777216 → c ≤ 16777216
        down b c e h = omega arith

        down' : (b c : ℕ) → b ≡ suc c → b ≤ 16777216 → suc c ≤ 16777216
        down' b c e h = omega arith

pub nearest_whole : (p q t r : ℕ) → p + q ≤ 16777216 → t * t ≤ 4 * (p * p + q * q) → 4 * (p * p + q * q) < (t + 1) * (t + 1) → r ≡ (t + 1) / 2 → r ≡ nearest_root (square (units_of p) + square (units_of q))
nearest_whole p q t r h lo hi e =
    e ∙ whole (p * p + q * q) t (squares_small p q h) lo hi ∙ ap₂ (λ (x y : ℕ). nearest_root (x * x + y * y)) (own p (left p q h)) (own q (right p q h))
  where
    left : (p q : ℕ) → p + q ≤ 16777216 → p ≤ 16777216
    left p q h = omega arith

    right : (p q : ℕ) → p + q ≤ 16777216 → q ≤ 16777216
    right p q h = omega arith
