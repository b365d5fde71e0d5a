-- A number and its refusal. Assumes nothing.
use mathlib.Core.Path.{◌≡◌, refl, ap, ◌∙◌}
use mathlib.Core.Bool.{Bool, true, false, cond}
use Prim.Native.Nat.{ℕ}
use native.Mathlib.Omega.{arith}
use borrow.Author.Tests.{eqb-true, eqb-false}
use lib.Dec.{eqb}
use Rattle.std.specs.Prelude.{⊤, Result, Ok, Err}
use Rattle.lists.proofs.Bools.{by_test}
use Rattle.refusal.specs.Refusal.{number_of, refusal_numbered, refused, unless_refused, number_in}
use Rattle.refusal.specs.declared.Refusal.{Refusal}
use Rattle.refusal.specs.declared.Refusal.TheVariants.{Field, Pose, Ball, Number, Distance, ListRoom, SheetRoom, TextRoom, Display}

-- ---- one and the other are not equal
pub ok_same : {A E : Type 0} {u v : A} → ◌≡◌ {A = Result A E} (Ok u) (Ok v) → u ≡ v
ok_same e = cc

pub err_same : {A E : Type 0} {u v : E} → ◌≡◌ {A = Result A E} (Err u) (Err v) → u ≡ v
err_same e = cc

pub ok_err : {A E : Type 0} {u : A} {v : E} → ◌≡◌ {A = Result A E} (Ok u) (Err v) → ⊥
ok_err e = let z : ◌≡◌ {A = ℕ} 0 1 = cc in absurd (omega (arith, z))

pub err_ok : {A E : Type 0} {u : E} {v : A} → ◌≡◌ {A = Result A E} (Err u) (Ok v) → ⊥
err_ok e = let z : ◌≡◌ {A = ℕ} 0 1 = cc in absurd (omega (arith, z))

module _ {A : Type 0} (n : ℕ) (x : A) where
  unless : (b : Bool) → eqb n 0 ≡ b → unless_refused n x ≡ cond b (Ok x) (refused n)
  unless b e = ap (λ (z : Bool). cond z (Ok x) (refused n)) e

  -- a value is that beside 0
  pub not_refused : (y : A) → Ok y ≡ unless_refused n x → (n ≡ 0) × (y ≡ x)
  not_refused y e = by_test (eqb n 0) (λ t. (eqb-true n 0 t, ok_same (e ∙ unless true t))) (λ f. absurd (ok_err (e ∙ unless false f)))

  -- a refusal is that of the number
  pub refused_by : (r : Refusal) → Err r ≡ unless_refused n x → (n ≡ 0 → ⊥) × (r ≡ refusal_numbered n)
  refused_by r e = by_test (eqb n 0) (λ t. absurd (err_ok (e ∙ unless true t))) (λ f. (eqb-false n 0 f, err_same (e ∙ unless false f)))

-- ---- and back
pub numbered_back : (r : Refusal) → refusal_numbered (number_of r) ≡ r
numbered_back Field = refl
numbered_back Pose = refl
numbered_back Ball = refl
numbered_back Number = refl
numbered_back Distance = refl
numbered_back ListRoom = refl
numbered_back SheetRoom = refl
numbered_back TextRoom = refl
numbered_back Display = refl

-- of a result without a value of its own
pub unless_back : (own : Result ⊤ Refusal) → unless_refused (number_in own) tt ≡ own
unless_back (Ok tt) = refl
unless_back (Err Field) = refl
unless_back (Err Pose) = refl
unless_back (Err Ball) = refl
unless_back (Err Number) = refl
unless_back (Err Distance) = refl
unless_back (Err ListRoom) = refl
unless_back (Err SheetRoom) = refl
unless_back (Err TextRoom) = refl
unless_back (Err Display) = refl
