use Rattle.std.proofs.Common.{◌≡◌, ℕ, ◌+◌, ◌≤◌, Bool, true, false, get_or, refl, arith}
use mir.Val.{bool_byte}
use Rattle.lists.specs.Put.{count_if}
use Rattle.lists.proofs.Counting.{count_none, count_turn, count_done, count_le}
use Rattle.keys.specs.Keys.{has_key, keys_below}
use Rattle.excess.proofs.key_count.Goals as goal

-- a test as a number
at_most_one : (b : Bool) → bool_byte b ≤ 1
at_most_one true = omega arith
at_most_one false = omega arith

one_more : (b : Bool) (n : ℕ) → n + bool_byte b ≡ count_if b n
one_more true n = refl
one_more false n = omega arith

pub loop-i-init : goal.loop-i-init
loop-i-init c = count_none _

pub overflow_add-n : goal.overflow_add-n
overflow_add-n c =
    let keys : ℕ → ℕ = λ k. get_or c.args.keys.now k 0 in
    omega (arith, c.loop-i.invariant, count_le c.loop-i.i (has_key keys), at_most_one (has_key keys c.loop-i.i))

pub loop-i-preserved : goal.loop-i-preserved
loop-i-preserved c =
    count_turn _ _ _ _ _ c.loop-i.invariant refl (one_more (has_key (λ k. get_or c.args.keys.now k 0) c.loop-i.i) c.loop-i.n)

pub returns : goal.returns
unfolding keys_below
returns c = count_done _ _ _ 20 c.loop-i.auto.i-end c.loop-i-test.false c.loop-i.invariant
