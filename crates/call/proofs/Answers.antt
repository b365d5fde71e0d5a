-- What the call answers and leaves: the list of refusals goes on with 12, and then with 7, only where the situation itself is not refused. Assumes nothing.
use mathlib.Core.Path.{◌≡◌, refl, sym, ap, subst, ◌∙◌}
use mathlib.Core.Bool.{Bool, true, false, cond}
use mathlib.Core.List.{List, [], ◌∷◌, ◌++◌, map}
use Prim.Native.Nat.{ℕ, ◌≤◌}
use native.Mathlib.Omega.{arith}
use borrow.Author.Tests.{eq-eqb, ne_eqb}
use lib.Dec.{eqb, ltb}
use lib.Ieee.{Float}
use lib.ListN.{length}
use Rattle.std.specs.Prelude.{⊤, Result, Ok, Err}
use Rattle.lists.specs.Put.{fronted_into}
use Rattle.lists.specs.Refusals.{Requirement, first_refusal, all_numbered}
use Rattle.lists.proofs.Refusals.{refusal_append}
use Rattle.game.specs.declared.Decision.{Decision}
use Rattle.game.specs.declared.Situation.{Situation}
use Rattle.refusal.specs.Refusal.{refused, unless_refused}
use Rattle.refusal.specs.declared.Refusal.{Refusal}
use Rattle.refusal.specs.declared.Refusal.TheVariants.{Display}
use Rattle.refusal.proofs.Told.{not_refused, refused_by}
use Rattle.refusals.specs.Refusals.{requirements_of, refusal_of}
use Rattle.decision.specs.Decision.{decision_of}
use Rattle.sheet.specs.Rows.{rows_of}
use Rattle.sheet.specs.Sheet.{bytes_in, text_of, decision_answer, decision_sheet}
use Rattle.sheet.proofs.Texts.{call_answer, call_after, answer_by, after_by, call_refused, call_accepted, call_room}
use Rattle.call.specs.declared.SheetFor.{SheetFor}
use Rattle.call.specs.Call.{shows, lines_for, call_requirements, sheet_answer, sheet_after}

module _ (to : SheetFor) (s : Situation) (xs ys : List Float) where
  -- the first of 1 to 5 and 12, or 0
  abbrev pub refusal_for : ℕ
  refusal_for = cond (eqb (refusal_of s xs ys) 0) (cond (shows to (length (rows_of (decision_of s xs ys)))) 0 12) (refusal_of s xs ys)

  -- the list of refusals before 7
  abbrev before_room : List Requirement
  before_room = requirements_of s xs ys ++ (lines_for to (decision_of s xs ys) ∷ [])

  numbered : all_numbered before_room ≡ true
  unfolding requirements_of
  numbered = refl

  five_numbered : all_numbered (requirements_of s xs ys) ≡ true
  unfolding requirements_of
  five_numbered = refl

  first_told : first_refusal before_room ≡ refusal_for
  unfolding refusal_of
  first_told = refusal_append (requirements_of s xs ys) (lines_for to (decision_of s xs ys) ∷ []) five_numbered

  -- the refusals in their order
  in_order : (lent : ℕ) → map (λ (r : Requirement). r.number) (call_requirements to s xs ys lent) ≡ 1 ∷ 2 ∷ 3 ∷ 4 ∷ 5 ∷ 12 ∷ 7 ∷ []
  unfolding requirements_of
  in_order lent = refl

  -- answer and bytes are those of the list before 7, and 7 after it
  answer_as : (lent : ℕ) → sheet_answer to s xs ys lent ≡ call_answer before_room 7 (text_of (decision_of s xs ys)) lent
  unfolding sheet_answer requirements_of
  answer_as lent = let order = in_order lent in refl

  after_as : (sheet : List ℕ) → sheet_after to s xs ys sheet ≡ call_after before_room 7 (text_of (decision_of s xs ys)) sheet
  unfolding sheet_after requirements_of
  after_as sheet = let order = in_order (length sheet) in refl

  -- the answer, by whether 1 to 5 or 12 refuses, and by the test of the lent bytes
  pub answer_cases : (lent : ℕ) → sheet_answer to s xs ys lent
      ≡ cond (eqb refusal_for 0) (cond (ltb lent (length (text_of (decision_of s xs ys)))) (refused 7) (Ok (length (text_of (decision_of s xs ys))))) (refused refusal_for)
  answer_cases lent =
      let text = text_of (decision_of s xs ys) in
      answer_as lent ∙ answer_by before_room 7 text numbered refl lent ∙ ap (λ (n : ℕ). cond (eqb n 0) (cond (ltb lent (length text)) (refused 7) (Ok (length text))) (refused n)) first_told

  -- the bytes
  pub after_told : (sheet : List ℕ) → sheet_after to s xs ys sheet ≡ cond (eqb refusal_for 0) (decision_sheet (decision_of s xs ys) sheet) sheet
  unfolding fronted_into
  after_told sheet =
      let text = text_of (decision_of s xs ys) in
      after_as sheet ∙ after_by before_room 7 text numbered refl sheet ∙ ap (λ (n : ℕ). cond (eqb n 0) (decision_sheet (decision_of s xs ys) sheet) sheet) first_told

  -- no more bytes are written than were lent
  pub sheet_room : (lent : ℕ) → bytes_in (sheet_answer to s xs ys lent) ≤ lent
  sheet_room lent = subst (λ (a : Result ℕ Refusal). bytes_in a ≤ lent) (sym (answer_as lent)) (call_room before_room 7 (text_of (decision_of s xs ys)) numbered refl lent)

  -- ---- the first of 1 to 5 and 12, case by case
  pub first_of_five : (refusal_of s xs ys ≡ 0 → ⊥) → refusal_for ≡ refusal_of s xs ys
  first_of_five h = ap (λ (b : Bool). cond b (cond (shows to (length (rows_of (decision_of s xs ys)))) 0 12) (refusal_of s xs ys)) (ne_eqb _ _ h)

  pub by_lines : (b : Bool) → refusal_of s xs ys ≡ 0 → shows to (length (rows_of (decision_of s xs ys))) ≡ b → refusal_for ≡ cond b 0 12
  by_lines b h e =
      ap (λ (z : Bool). cond z (cond (shows to (length (rows_of (decision_of s xs ys)))) 0 12) (refusal_of s xs ys)) (eq-eqb _ _ h) ∙ ap (λ (z : Bool). cond z 0 12) e

  pub twelve : refusal_of s xs ys ≡ 0 → shows to (length (rows_of (decision_of s xs ys))) ≡ false → refusal_for ≡ 12
  twelve = by_lines false

  pub none_refused : refusal_of s xs ys ≡ 0 → shows to (length (rows_of (decision_of s xs ys))) ≡ true → refusal_for ≡ 0
  none_refused = by_lines true

  -- ---- what the call answers and leaves where it is refused before 7
  pub refused_before : (n : ℕ) (sheet : List ℕ) → n ≡ refusal_for → (n ≡ 0 → ⊥) → (refused n ≡ sheet_answer to s xs ys (length sheet)) × (sheet ≡ sheet_after to s xs ys sheet)
  refused_before n sheet e h =
      let told = call_refused before_room 7 (text_of (decision_of s xs ys)) numbered refl n sheet (e ∙ sym first_told) h in
      (told.0 ∙ sym (answer_as (length sheet)), told.1 ∙ sym (after_as sheet))

-- ---- what the code leaves
module _ (to : SheetFor) (s : Situation) (xs ys : List Float) where
  -- the situation was refused
  pub sheet_refused : (r : Refusal) (sheet : List ℕ) → ◌≡◌ {A = Result ⊤ Refusal} (Err r) (unless_refused (refusal_of s xs ys) tt) → (Err r ≡ sheet_answer to s xs ys (length sheet)) × (sheet ≡ sheet_after to s xs ys sheet)
  sheet_refused r sheet e =
      let h = refused_by (refusal_of s xs ys) tt r e in
      let told = refused_before to s xs ys (refusal_of s xs ys) sheet (sym (first_of_five to s xs ys h.0)) h.0 in
      (ap Err h.1 ∙ told.0, told.1)

  module _ (d : Decision) (decided : d ≡ decision_of s xs ys) (accepted : ◌≡◌ {A = Result ⊤ Refusal} (Ok tt) (unless_refused (refusal_of s xs ys) tt)) where
    none : refusal_of s xs ys ≡ 0
    none = (not_refused (refusal_of s xs ys) tt tt accepted).0

    shown_as : (b : Bool) → shows to (length (rows_of d)) ≡ b → shows to (length (rows_of (decision_of s xs ys))) ≡ b
    shown_as b e = ap (λ (z : Decision). shows to (length (rows_of z))) (sym decided) ∙ e

    -- it was not, but its lines are too many
    pub sheet_not_shown : (sheet : List ℕ) → shows to (length (rows_of d)) ≡ false → (Err Display ≡ sheet_answer to s xs ys (length sheet)) × (sheet ≡ sheet_after to s xs ys sheet)
    sheet_not_shown sheet e = refused_before to s xs ys 12 sheet (sym (twelve to s xs ys none (shown_as false e))) (λ z. omega (arith, z))

    -- they are not
    pub sheet_decided : (sheet next : List ℕ) (r : Result ℕ Refusal) → shows to (length (rows_of d)) ≡ true → r ≡ decision_answer d (length sheet) → next ≡ decision_sheet d sheet
        → (r ≡ sheet_answer to s xs ys (length sheet)) × (next ≡ sheet_after to s xs ys sheet)
    unfolding decision_answer
    sheet_decided sheet next r e p q =
        let text = call_accepted (before_room to s xs ys) 7 (text_of (decision_of s xs ys)) (numbered to s xs ys) refl (first_told to s xs ys ∙ none_refused to s xs ys none (shown_as true e)) r sheet next
        (p ∙ ap (λ (z : Decision). decision_answer z (length sheet)) decided) (q ∙ ap (λ (z : Decision). decision_sheet z sheet) decided) in
        (text.0 ∙ sym (answer_as to s xs ys (length sheet)), text.1 ∙ sym (after_as to s xs ys sheet))
