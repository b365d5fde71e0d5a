-- A call that writes a text: what it answers and leaves, by a list of refusals that ends with the number k, of the lent bytes. Assumes nothing.
use mathlib.Core.Path.{◌≡◌, refl, sym, ap, subst, ◌∙◌}
use mathlib.Core.Bool.{Bool, true, false, cond}
use mathlib.Core.List.{List, [], ◌∷◌, ◌++◌}
use Prim.Native.Nat.{ℕ, ◌≤◌, ◌<◌}
use native.Mathlib.Omega.{arith}
use borrow.Author.Tests.{eq-eqb, ne_eqb, leb-true, leb-false, lt-ltb, le-ltb, ltb-false}
use lib.Dec.{eqb, leb, ltb}
use lib.ListN.{length}
use Rattle.std.specs.Prelude.{Result, Ok}
use Rattle.lists.specs.Put.{fronted, fronted_into}
use Rattle.lists.specs.Refusals.{Requirement, first_refusal, all_numbered}
use Rattle.lists.proofs.Bools.{by_test}
use Rattle.lists.proofs.Refusals.{refusal_append}
use Rattle.refusal.specs.Refusal.{refused}
use Rattle.refusal.specs.declared.Refusal.{Refusal}
use Rattle.sheet.specs.Sheet.{bytes_in, answered}

module _ {X : Type 0} where
  -- one test for the other
  room_tested : (a b : ℕ) (x y : X) → cond (leb a b) x y ≡ cond (ltb b a) y x
  room_tested a b x y =
      by_test (leb a b)
      (λ t. ap (λ (z : Bool). cond z x y) t ∙ ap (λ (z : Bool). cond z y x) (sym (le-ltb b a (leb-true _ _ t))))
      (λ f. ap (λ (z : Bool). cond z x y) f ∙ ap (λ (z : Bool). cond z y x) (sym (lt-ltb b a (leb-false _ _ f))))

  -- what the first refusal decides: r before k, and otherwise by whether there is room
  by_first : (written : X) (refused : ℕ → X) (r k : ℕ) (none room : Bool) → eqb r 0 ≡ none → eqb k 0 ≡ false
      → (let n = cond none (cond room 0 k) r in cond (eqb n 0) written (refused n) ≡ cond none (cond room written (refused k)) (refused r))
  by_first written refused r k true true e some = refl
  by_first written refused r k true false e some = ap (λ (z : Bool). cond z written (refused k)) some
  by_first written refused r k false room e some = ap (λ (z : Bool). cond z written (refused r)) e

module _ (cs : List Requirement) (k : ℕ) (text : List ℕ) where
  -- the first refusal of cs, and then of the room for the text
  abbrev pub refused_at : ℕ → ℕ
  refused_at lent = first_refusal (cs ++ (record { holds = leb (length text) lent; number = k } ∷ []))

  -- what is answered
  abbrev pub call_answer : ℕ → Result ℕ Refusal
  call_answer lent = answered (refused_at lent) (length text)

  -- the lent bytes after it
  abbrev pub call_after : List ℕ → List ℕ
  call_after s = cond (eqb (refused_at (length s)) 0) (fronted text s) s

module _ (cs : List Requirement) (k : ℕ) (text : List ℕ) (numbered : all_numbered cs ≡ true) (some : eqb k 0 ≡ false) where
  chosen : {X : Type 0} (written : X) (refused : ℕ → X) (lent : ℕ)
      → cond (eqb (refused_at cs k text lent) 0) written (refused (refused_at cs k text lent)) ≡ cond (eqb (first_refusal cs) 0) (cond (ltb lent (length text)) (refused k) written) (refused (first_refusal cs))
  chosen {X} written refused lent =
      ap (λ (n : ℕ). cond (eqb n 0) written (refused n)) (refusal_append cs (record { holds = leb (length text) lent; number = k } ∷ []) numbered)
      ∙ by_first written refused (first_refusal cs) k (eqb (first_refusal cs) 0) (leb (length text) lent) refl some
      ∙ ap (λ (x : X). cond (eqb (first_refusal cs) 0) x (refused (first_refusal cs))) (room_tested (length text) lent written (refused k))

  -- ---- by whether cs refuses, and by the test of the lent bytes
  pub answer_by : (lent : ℕ) → call_answer cs k text lent ≡ cond (eqb (first_refusal cs) 0) (cond (ltb lent (length text)) (refused k) (Ok (length text))) (refused (first_refusal cs))
  answer_by lent = chosen (Ok (length text)) refused lent

  pub after_by : (s : List ℕ) → call_after cs k text s ≡ cond (eqb (first_refusal cs) 0) (cond (ltb (length s) (length text)) s (fronted text s)) s
  after_by s = chosen (fronted text s) (λ n. s) (length s)

  -- the same of the text alone
  text_by : (lent : ℕ) → call_answer [] k text lent ≡ cond (ltb lent (length text)) (refused k) (Ok (length text))
  text_by lent = by_first (Ok (length text)) refused 0 k true (leb (length text) lent) refl some ∙ room_tested (length text) lent (Ok (length text)) (refused k)

  pub text_short : (lent : ℕ) → lent < length text → refused k ≡ call_answer [] k text lent
  text_short lent h = sym (text_by lent ∙ ap (λ (b : Bool). cond b (refused k) (Ok (length text))) (lt-ltb _ _ h))

  pub text_fits : (lent : ℕ) → length text ≤ lent → Ok (length text) ≡ call_answer [] k text lent
  text_fits lent h = sym (text_by lent ∙ ap (λ (b : Bool). cond b (refused k) (Ok (length text))) (le-ltb _ _ h))

  -- ---- what the code leaves
  -- cs refused
  pub call_refused : (n : ℕ) (s : List ℕ) → n ≡ first_refusal cs → (n ≡ 0 → ⊥) → (refused n ≡ call_answer cs k text (length s)) × (s ≡ call_after cs k text s)
  call_refused n s told h =
      let no : eqb (first_refusal cs) 0 ≡ false = ne_eqb _ _ (λ e. h (told ∙ e)) in (
        ap refused told ∙ sym (answer_by (length s) ∙ ap (λ (b : Bool). cond b (cond (ltb (length s) (length text)) (refused k) (Ok (length text))) (refused (first_refusal cs))) no),
        sym (after_by s ∙ ap (λ (b : Bool). cond b (cond (ltb (length s) (length text)) s (fronted text s)) s) no),
      )

  module _ (accepted : first_refusal cs ≡ 0) where
    answer_room : (lent : ℕ) → call_answer cs k text lent ≡ cond (ltb lent (length text)) (refused k) (Ok (length text))
    answer_room lent = answer_by lent ∙ ap (λ (b : Bool). cond b (cond (ltb lent (length text)) (refused k) (Ok (length text))) (refused (first_refusal cs))) (eq-eqb _ _ accepted)

    after_room : (s : List ℕ) → call_after cs k text s ≡ cond (ltb (length s) (length text)) s (fronted text s)
    after_room s = after_by s ∙ ap (λ (b : Bool). cond b (cond (ltb (length s) (length text)) s (fronted text s)) s) (eq-eqb _ _ accepted)

    -- a writer of the text alone, which refuses with k where there is no room, answered and left this
    pub call_accepted : (r : Result ℕ Refusal) (s next : List ℕ) → r ≡ call_answer [] k text (length s) → next ≡ fronted_into text s → (r ≡ call_answer cs k text (length s)) × (next ≡ call_after cs k text s)
    unfolding fronted_into
    call_accepted r s next e p = (e ∙ text_by (length s) ∙ sym (answer_room (length s)), p ∙ sym (after_room s))

  -- no more bytes are written than were lent
  pub call_room : (lent : ℕ) → bytes_in (call_answer cs k text lent) ≤ lent
  call_room lent = subst (λ (a : Result ℕ Refusal). bytes_in a ≤ lent) (sym (answer_by lent)) (go (eqb (first_refusal cs) 0) (ltb lent (length text)) refl)
    where
      go : (b f : Bool) → ltb lent (length text) ≡ f → bytes_in (cond b (cond f (refused k) (Ok (length text))) (refused (first_refusal cs))) ≤ lent
      go true true e = omega arith
      go true false e = ltb-false _ _ e
      go false f e = omega arith
