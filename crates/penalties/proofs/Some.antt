-- What a loop that looks for a place keeps: after i turns the answer is `some_to i P`. Assumes nothing.
use Rattle.std.proofs.Common.{◌≡◌, refl, sym, ap, ap₂, ◌∙◌, Bool, false, ◌||◌, ℕ, zero, suc, ◌+◌, ◌≤◌, add-one}
use native.Mathlib.Nat.{le_antisymm}
use Rattle.penalties.specs.Penalties.{some_to}

-- before the loop
pub some_none : (P : ℕ → Bool) → false ≡ some_to 0 P
unfolding some_to
some_none P = refl

-- a turn
pub some_turn : (P : ℕ → Bool) (acc next : Bool) (i : ℕ) → acc ≡ some_to i P → next ≡ (acc || P i) → next ≡ some_to (i + 1) P
unfolding some_to
some_turn P acc next i e p = p ∙ ap (λ (a : Bool). a || P i) e ∙ ap (λ (k : ℕ). some_to k P) (sym (add-one i))

-- the loop's end
pub some_done : (P : ℕ → Bool) (acc : Bool) (i n : ℕ) → i ≤ n → n ≤ i → acc ≡ some_to i P → acc ≡ some_to n P
some_done P acc i n a b e = e ∙ ap (λ (k : ℕ). some_to k P) (le_antisymm a b)

-- a test that no place passes
pub some_never : (n : ℕ) (P : ℕ → Bool) → ((k : ℕ) → P k ≡ false) → some_to n P ≡ false
unfolding some_to
some_never zero P e = refl
some_never (suc n) P e = ap₂ (λ (a b : Bool). a || b) (some_never n P e) (e n)
