-- A field has at least one byte, and the value of the open field is at most 2^32. Assumes nothing.
use mathlib.Core.Path.{◌≡◌, refl, ◌∙◌}
use mathlib.Core.Bool.{Bool, true, false, cond}
use Prim.Native.Nat.{ℕ, ◌+◌, ◌-◌, ◌*◌, ◌≤◌}
use native.Mathlib.Nat.{min-eq_left, min-eq_right}
use native.Mathlib.Omega.{arith}
use borrow.Author.Tests.{leb-true, leb-false}
use lib.Dec.{leb}
use Rattle.lists.proofs.Bools.{both_true}
use Rattle.numbers.specs.declared.Progress.{Progress}
use Rattle.numbers.specs.declared.Progress.TheVariants.{Closed, Open}
use Rattle.std.specs.Prelude.{min, Ok, Err}
use Rattle.numbers.specs.declared.Unread.TheVariants.{TooLarge}
use Rattle.numbers.specs.Numbers.{is_separator, is_digit, is_small}
use Rattle.numbers.specs.Walk.{Kind, Separator, Digit, Other, kind_of, with_digit, after_byte, field_of, begun, open_value}

-- the digit, or 0
abbrev digit_in : Kind → ℕ
digit_in Separator = 0
digit_in (Digit d) = d
digit_in Other = 0

digit_at_most : (b : ℕ) → digit_in (kind_of b) ≤ 9
unfolding kind_of
digit_at_most b = go (is_separator b) (is_digit b) refl
  where
    go : (s d : Bool) → is_digit b ≡ d → digit_in (cond s Separator (cond d (Digit (b - 48)) Other)) ≤ 9
    go true d e = omega arith
    go false true e = omega (arith, leb-true b 57 (both_true (leb 48 b) (leb b 57) e).1)
    go false false e = omega arith

-- a byte begins one field at most
pub begun_on : (k : Kind) (p : Progress) → begun (after_byte k p) ≤ begun p + 1
begun_on Separator (Closed r) = omega arith
begun_on Separator (Open n v) = go (is_small v)
  where
    go : (s : Bool) → field_of (cond s (Ok (n + 1)) (Err (TooLarge n))) ≤ n + 1 + 1
    go true = omega arith
    go false = omega arith
begun_on (Digit d) (Closed (Ok n)) = omega arith
begun_on (Digit d) (Closed (Err unread)) = omega arith
begun_on (Digit d) (Open n v) = omega arith
begun_on Other (Closed (Ok n)) = omega arith
begun_on Other (Closed (Err unread)) = omega arith
begun_on Other (Open n v) = omega arith

-- a value with one digit more is held
pub held : (v d : ℕ) → with_digit v d ≤ 4294967296
unfolding with_digit
held v d = go (is_small (10 * v + d)) refl
  where
    go : (s : Bool) → is_small (10 * v + d) ≡ s → cond s (10 * v + d) 4294967296 ≤ 4294967296
    go true e = omega (arith, leb-true (10 * v + d) 4294967295 e)
    go false e = omega arith

-- a value with one digit more is the lesser of it and 2^32
pub least : (v d r : ℕ) → r ≡ min (10 * v + d) 4294967296 → r ≡ with_digit v d
unfolding with_digit
least v d r e = go (is_small (10 * v + d)) refl
  where
    go : (s : Bool) → is_small (10 * v + d) ≡ s → r ≡ cond s (10 * v + d) 4294967296
    go true p = let low = leb-true (10 * v + d) 4294967295 p in e ∙ min-eq_left (omega (arith, low))
    go false p = let high = leb-false (10 * v + d) 4294967295 p in e ∙ min-eq_right (omega (arith, high))

value_after : (k : Kind) (p : Progress) → digit_in k ≤ 9 → open_value (after_byte k p) ≤ 4294967296
value_after Separator p h = omega arith
value_after (Digit d) (Closed (Ok n)) h = omega arith
value_after (Digit d) (Closed (Err unread)) h = omega arith
value_after (Digit d) (Open n v) h = held v d
value_after Other p h = omega arith

pub value_on : (b : ℕ) (p : Progress) → open_value (after_byte (kind_of b) p) ≤ 4294967296
value_on b p = value_after (kind_of b) p (digit_at_most b)
