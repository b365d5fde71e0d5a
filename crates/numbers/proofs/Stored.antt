-- Numbers stored one after the other from the first place on stand at the buffer's front, as far as it has room. Assumes nothing.
use mathlib.Core.Path.{◌≡◌, refl, ap, ◌∙◌}
use mathlib.Core.List.{List, [], ◌∷◌}
use Prim.Native.Nat.{ℕ, suc}
use lib.ListN.{set}
use lib.Seq.{sets}
use Rattle.lists.specs.Put.{fronted}
use Rattle.numbers.specs.Numbers.{stored}

-- where there is no room
sets_none : (n : ℕ) (ns : List ℕ) → sets [] n ns ≡ []
sets_none n [] = refl
sets_none n (x ∷ ns) = sets_none (suc n) ns

-- past the first element
sets_past : (y : ℕ) (buffer : List ℕ) (n : ℕ) (ns : List ℕ) → sets (y ∷ buffer) (suc n) ns ≡ y ∷ sets buffer n ns
sets_past y buffer n [] = refl
sets_past y buffer n (x ∷ ns) = sets_past y (set buffer n x) (suc n) ns

pub sets_stored : (buffer ns : List ℕ) → sets buffer 0 ns ≡ stored ns buffer
unfolding stored fronted
sets_stored [] [] = refl
sets_stored [] (x ∷ ns) = sets_none 1 ns
sets_stored (y ∷ buffer) [] = refl
sets_stored (y ∷ buffer) (x ∷ ns) = sets_past x buffer 0 ns ∙ ap (λ (l : List ℕ). x ∷ l) (sets_stored buffer ns)
