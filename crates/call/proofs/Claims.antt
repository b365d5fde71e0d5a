-- The desk's sheet is as it was before the display, and the display's beside it. Assumes nothing.
use mathlib.Core.Path.{◌≡◌, refl, sym, ap, ◌∙◌}
use mathlib.Core.Bool.{Bool, true, false, cond, true≢false}
use mathlib.Core.List.{List}
use Prim.Native.Nat.{ℕ, ◌≤◌}
use native.Mathlib.Omega.{arith}
use borrow.Author.Tests.{eq-eqb, eqb-true, ne_eqb, le-leb, lt-leb, le-ltb, ltb-false}
use lib.Dec.{eqb, ltb}
use lib.Ieee.{Float}
use lib.ListN.{length, take, drop}
use lib.Seq.{take_at}
use Rattle.std.specs.Prelude.{Result, Ok, Err}
use Rattle.lists.specs.Put.{fronted}
use Rattle.lists.proofs.Fronted.{into_fits}
use Rattle.game.specs.declared.Situation.{Situation}
use Rattle.refusal.specs.Refusal.{refused, number_in}
use Rattle.refusals.proofs.Numbers.{number_back}
use Rattle.refusal.specs.declared.Refusal.{Refusal}
use Rattle.refusals.specs.Refusals.{requirements_of, refusal_of}
use Rattle.decision.specs.Decision.{decision_of}
use Rattle.sheet.specs.Rows.{rows_of}
use Rattle.sheet.specs.Sheet.{bytes_in, text_of, decision_sheet}
use Rattle.sheet.proofs.Answers.{text_long}
use Rattle.call.specs.declared.SheetFor.{SheetFor}
use Rattle.call.specs.declared.SheetFor.TheVariants.{Desk, Display}
use Rattle.call.specs.Call.{shows, sheet_answer, sheet_after}
use Rattle.call.specs.Claims.{DeskClaim, DisplayClaim}
use Rattle.call.proofs.Answers.{refusal_for, answer_cases, after_told, first_of_five, twelve, none_refused, refused_before}

-- ---- a sheet that is written
abbrev is_written : Result ℕ Refusal → Bool
is_written (Err r) = false
is_written (Ok n) = true

module _ (to : SheetFor) (s : Situation) (xs ys : List Float) (sheet : List ℕ) (n : ℕ) (e : sheet_answer to s xs ys (length sheet) ≡ Ok n) where
  abbrev text : List ℕ
  text = text_of (decision_of s xs ys)

  -- nothing is refused, and there is room for the text
  pub record Told : Type 0 where
    pub none : refusal_for to s xs ys ≡ 0
    pub room : ltb (length sheet) (length text) ≡ false
    pub size : length text ≡ n

  pub written_told : Told
  written_told = go (eqb (refusal_for to s xs ys) 0) (ltb (length sheet) (length text)) refl refl (sym (answer_cases to s xs ys (length sheet)) ∙ e)
    where
      go : (a b : Bool) → eqb (refusal_for to s xs ys) 0 ≡ a → ltb (length sheet) (length text) ≡ b → cond a (cond b (refused 7) (Ok (length text))) (refused (refusal_for to s xs ys)) ≡ Ok n → Told
      go true true p q w = absurd (true≢false (sym (ap is_written w)))
      go true false p q w = record { none = eqb-true (refusal_for to s xs ys) 0 p; room = q; size = ap bytes_in w }
      go false b p q w = absurd (true≢false (sym (ap is_written w)))

  -- so the bytes that count are the text
  pub bytes_told : take n (sheet_after to s xs ys sheet) ≡ text
  unfolding fronted
  bytes_told =
      ap (take n)
      (after_told to s xs ys sheet
      ∙ ap (λ (b : Bool). cond b (decision_sheet (decision_of s xs ys) sheet) sheet) (eq-eqb (refusal_for to s xs ys) 0 written_told.none)
      ∙ into_fits text sheet (ltb-false (length sheet) (length text) written_told.room))
      ∙ take_at text (drop (length text) sheet) n written_told.size

  -- and the situation is accepted
  pub written_accepted : refusal_of s xs ys ≡ 0
  written_accepted = go (eqb (refusal_of s xs ys) 0) refl written_told.none
    where
      go : (b : Bool) → eqb (refusal_of s xs ys) 0 ≡ b → cond b (cond (shows to (length (rows_of (decision_of s xs ys)))) 0 12) (refusal_of s xs ys) ≡ 0 → refusal_of s xs ys ≡ 0
      go true p h = eqb-true (refusal_of s xs ys) 0 p
      go false p h = h

-- ---- the desk
pub desk : DeskClaim
unfolding sheet_answer sheet_after requirements_of
desk s xs ys sheet = record { answer = refl; bytes = refl }

-- ---- the display
module _ (s : Situation) (xs ys : List Float) (sheet : List ℕ) where
  abbrev lines : ℕ
  lines = length (rows_of (decision_of s xs ys))

  -- a refusal before 7, told from the call's side
  kept : (n : ℕ) → refusal_for Display s xs ys ≡ n → (n ≡ 0 → ⊥) → (sheet_answer Display s xs ys (length sheet) ≡ refused n) × (sheet_after Display s xs ys sheet ≡ sheet)
  kept n e h = let told = refused_before Display s xs ys n sheet (sym e) h in (sym told.0, sym told.1)

  -- up to twelve lines: both lists of refusals give the same
  same_first : lines ≤ 12 → refusal_for Display s xs ys ≡ refusal_for Desk s xs ys
  same_first h = ap (λ (b : Bool). cond (eqb (refusal_of s xs ys) 0) (cond b 0 12) (refusal_of s xs ys)) (le-leb lines 12 h)

  alike : lines ≤ 12 → (sheet_answer Display s xs ys (length sheet) ≡ sheet_answer Desk s xs ys (length sheet)) × (sheet_after Display s xs ys sheet ≡ sheet_after Desk s xs ys sheet)
  alike h =
      let text = text_of (decision_of s xs ys) in (
        answer_cases Display s xs ys (length sheet)
            ∙ ap (λ (n : ℕ). cond (eqb n 0) (cond (ltb (length sheet) (length text)) (refused 7) (Ok (length text))) (refused n)) (same_first h)
            ∙ sym (answer_cases Desk s xs ys (length sheet)),
        after_told Display s xs ys sheet
            ∙ ap (λ (n : ℕ). cond (eqb n 0) (decision_sheet (decision_of s xs ys) sheet) sheet) (same_first h)
            ∙ sym (after_told Desk s xs ys sheet),
      )

  -- the header and twelve lines have room
  fits : refusal_of s xs ys ≡ 0 → lines ≤ 12 → 585 ≤ length sheet → sheet_answer Display s xs ys (length sheet) ≡ Ok (length (text_of (decision_of s xs ys)))
  fits h few room =
      let text = text_of (decision_of s xs ys) in
      let long : length text ≤ length sheet = omega (arith, text_long (decision_of s xs ys), few, room) in
      answer_cases Display s xs ys (length sheet)
      ∙ ap (λ (n : ℕ). cond (eqb n 0) (cond (ltb (length sheet) (length text)) (refused 7) (Ok (length text))) (refused n)) (none_refused Display s xs ys h (le-leb lines 12 few))
      ∙ ap (λ (b : Bool). cond b (refused 7) (Ok (length text))) (le-ltb (length sheet) (length text) long)

pub display : DisplayClaim
display s xs ys sheet =
    record {
      refused = λ h. let k = kept s xs ys sheet (refusal_of s xs ys) (first_of_five Display s xs ys h) h in (
        k.0,
        ap (number_in {A = ℕ}) k.0 ∙ ap (number_in {A = ℕ}) (sym (ap (λ (b : Bool). cond b (Ok 0) (refused (refusal_of s xs ys))) (ne_eqb (refusal_of s xs ys) 0 h))) ∙ number_back {A = ℕ} 0 s xs ys,
        k.1,
      );
      too_many = λ h many. kept s xs ys sheet 12 (twelve Display s xs ys h (lt-leb (lines s xs ys sheet) 12 many)) (λ z. omega (arith, z));
      as_for_desk = alike s xs ys sheet;
      enough = fits s xs ys sheet;
      same_text = λ other m n p q.
          (sym (written_told Display s xs ys sheet m p).size ∙ (written_told Desk s xs ys other n q).size, bytes_told Display s xs ys sheet m p ∙ sym (bytes_told Desk s xs ys other n q));
    }
