-- The sheets of a situation and of the turned one, from the theorem of the half turn on the decisions. Assumes nothing.
use mathlib.Core.Path.{◌≡◌, refl, sym, ap, ap₂, subst, ◌∙◌}
use mathlib.Core.Bool.{Bool, true, false, cond}
use mathlib.Core.List.{List, ◌++◌}
use Prim.Native.Nat.{ℕ, suc}
use native.Mathlib.Omega.{arith}
use lib.Dec.{eqb, ltb}
use lib.Ieee.{Float}
use lib.ListN.{length}
use Rattle.std.specs.Prelude.{Result, Ok}
use Rattle.game.specs.Codes.{side_code}
use Rattle.game.specs.declared.Decision.{Decision}
use Rattle.game.specs.declared.Placement.{Placement}
use Rattle.game.specs.declared.Side.{Side}
use Rattle.game.specs.declared.Situation.{Situation}
use Rattle.places.specs.Turned.{ChangedHeading, ChangedPlace, none, ball, player}
use Rattle.refusal.specs.Refusal.{refused}
use Rattle.refusal.specs.declared.Refusal.{Refusal}
use Rattle.refusals.specs.Refusals.{refusal_of}
use Rattle.decision.specs.Changed.{keeps_heading, ChangedDecision}
use Rattle.decision.specs.Decision.{decision_of}
use Rattle.decision.specs.HalfTurn.{HalfTurn, turned, turned_places, Excepted}
use Rattle.decision.proofs.HalfTurn.{half_turn}
use Rattle.lines.specs.declared.Row.{Row}
use Rattle.sheet.specs.Rows.{row, placed_value, place_rows, judged_rows, header, rows_of, sheet_rows}
use Rattle.sheet.specs.Sheet.{text_of}
use Rattle.sheet.proofs.Answers.{text_long}
use Rattle.call.specs.declared.SheetFor.{SheetFor}
use Rattle.call.specs.Call.{shows, sheet_answer}
use Rattle.call.proofs.Answers.{answer_cases, by_lines}
use Rattle.words.specs.Words.{situation_of}
use Rattle.of_words.proofs.HalfTurn.{words_half_turn}
use Rattle.places_hold.specs.Claims.{Placed, nowhere, ball_at, player_at_holds}
use Rattle.places_hold.proofs.Placed.{placed}
use Rattle.places_hold.proofs.OfWords.{words_placed}
use Rattle.sheet_turned.specs.Claims.{half_round, TurnedRow, same, placed_x, placed_y, ball_z, heading_kept, heading_turned, TurnedRows, no_more, one_more, TurnedSheet, SheetHalfTurnClaim, WordsSheetHalfTurnClaim}
use Rattle.sheet_turned.proofs.Low.{Low, no_line, one_line, rows_parted, judged_low}
use Rattle.sheet_turned.proofs.Values.{value_turned}

-- ---- lines
same_lines : (kept : Bool) {l : List Row} → Low l → TurnedRows kept l l
same_lines kept no_line = no_more
same_lines kept (one_line h hs) = one_more (same h) (same_lines kept hs)

turned_append : {kept : Bool} {k k' l l' : List Row} → TurnedRows kept k k' → TurnedRows kept l l' → TurnedRows kept (k ++ l) (k' ++ l')
turned_append no_more t = t
turned_append (one_more h hs) t = one_more h (turned_append hs t)

turned_count : {kept : Bool} {l l' : List Row} → TurnedRows kept l l' → length l' ≡ length l
turned_count no_more = refl
turned_count (one_more h hs) = ap suc (turned_count hs)

-- a player's heading, as the wish has it
heading_line : (kept : Bool) (side : Side) (number : ℕ) (theta theta' : Float) → ChangedHeading true true kept theta theta' → TurnedRow kept (row 9 (side_code side) number (placed_value theta)) (row 9 (side_code side) number (placed_value theta'))
heading_line true side number theta theta' e = subst (λ (t : Float). TurnedRow true (row 9 (side_code side) number (placed_value theta)) (row 9 (side_code side) number (placed_value t))) (sym e) (heading_kept side refl)
heading_line false side number theta theta' h = heading_turned side refl (half_round theta theta' h)

place_turned : (kept : Bool) {p q : Placement} → Placed p → ChangedPlace true true (ChangedHeading true true kept) p q → TurnedRows kept (place_rows p) (place_rows q)
unfolding place_rows
place_turned kept nowhere none = no_more
place_turned kept (ball_at fx fy fz) (ball {x} {y} {z} {x'} {y'} hx hy) = one_more (placed_x (value_turned x x' fx hx)) (one_more (placed_y (value_turned y y' fy hy)) (one_more ball_z no_more))
place_turned kept (player_at_holds n fx fy fz) (player {side} {number} {x} {y} {theta} {x'} {y'} {theta'} hx hy h) =
    one_more (placed_x (value_turned x x' fx hx)) (one_more (placed_y (value_turned y y' fy hy)) (one_more (heading_line kept side number theta theta' h) no_more))

-- ---- two decisions
module _ (kept : Bool) (d e : Decision) (judged : judged_rows e ≡ judged_rows d) (fit : Placed d.place) (place : ChangedPlace true true (ChangedHeading true true kept) d.place e.place) where
  rows_turned : TurnedRows kept (rows_of d) (rows_of e)
  rows_turned =
      subst (λ (l : List Row). TurnedRows kept l (rows_of e)) (sym (rows_parted d))
      (subst (λ (l : List Row). TurnedRows kept (judged_rows d ++ place_rows d.place) l) (ap (λ (k : List Row). k ++ place_rows e.place) (sym judged) ∙ sym (rows_parted e))
      (turned_append (same_lines kept (judged_low d)) (place_turned kept fit place)))

  sheet_turned : TurnedRows kept (sheet_rows d) (sheet_rows e)
  unfolding sheet_rows
  sheet_turned =
      one_more (subst (λ (n : ℕ). TurnedRow kept (header (length (rows_of d))) (header n)) (sym (turned_count rows_turned)) (same (omega arith))) rows_turned

  same_lines_follow : length (rows_of e) ≡ length (rows_of d)
  same_lines_follow = turned_count rows_turned

  same_text : length (text_of e) ≡ length (text_of d)
  same_text = text_long e ∙ omega (arith, same_lines_follow) ∙ sym (text_long d)

-- ---- an accepted situation outside the exception
judged_same : (s : Situation) (d e : Decision) → ChangedDecision true true s.wish d e → judged_rows e ≡ judged_rows d
judged_same s d e c = simp (c.home.verdicts, c.away.verdicts, c.home.excess, c.away.excess, c.kicker, c.home.leaving, c.away.leaving, c.home.moved, c.away.moved, c.ball)

-- what is answered where the situation is accepted: by how many lines follow the header, of how many bytes the text is, and how many are lent
abbrev first_for : SheetFor → ℕ → ℕ
first_for to lines = cond (shows to lines) 0 12

abbrev answer_for : SheetFor → ℕ → ℕ → ℕ → Result ℕ Refusal
answer_for to lines n lent = cond (eqb (first_for to lines) 0) (cond (ltb lent n) (refused 7) (Ok n)) (refused (first_for to lines))

accepted_answer : (to : SheetFor) (s : Situation) (xs ys : List Float) (lent : ℕ) → refusal_of s xs ys ≡ 0 → sheet_answer to s xs ys lent ≡ answer_for to (length (rows_of (decision_of s xs ys))) (length (text_of (decision_of s xs ys))) lent
accepted_answer to s xs ys lent h =
    let text = text_of (decision_of s xs ys) in
    answer_cases to s xs ys lent
    ∙ ap (λ (n : ℕ). cond (eqb n 0) (cond (ltb lent (length text)) (refused 7) (Ok (length text))) (refused n)) (by_lines to s xs ys (shows to (length (rows_of (decision_of s xs ys)))) h refl)

told : (s : Situation) (xs ys : List Float) → Placed (decision_of s xs ys).place → refusal_of s xs ys ≡ 0 → HalfTurn s xs ys → (Excepted s → ⊥) → TurnedSheet s xs ys
told s xs ys finite h turn out =
    let d = decision_of s xs ys in
    let e = decision_of (turned s) (turned_places xs) (turned_places ys) in
    let c = turn.equal_if out in
    let judged = judged_same s d e c in
    let lines = sheet_turned (keeps_heading s.wish) d e judged finite c.place in
    record {
      lines = lines;
      count = turned_count lines;
      answer = λ to lent.
          accepted_answer to (turned s) (turned_places xs) (turned_places ys) lent turn.accepted_too
          ∙ ap₂ (λ (k n : ℕ). answer_for to k n lent) (same_lines_follow (keeps_heading s.wish) d e judged finite c.place) (same_text (keeps_heading s.wish) d e judged finite c.place)
          ∙ sym (accepted_answer to s xs ys lent h);
    }

pub sheet_half_turn : SheetHalfTurnClaim
sheet_half_turn s xs ys fit floats h out = told s xs ys (placed s xs ys floats h) h (half_turn s xs ys fit h) out

pub words_sheet_half_turn : WordsSheetHalfTurnClaim
words_sheet_half_turn ws xs ys h out = told (situation_of ws) xs ys (words_placed ws xs ys h) h (words_half_turn ws xs ys h) out
