-- The sentences of all players are those for the sheet's lines of kind 1, in their order. Assumes nothing.
use mathlib.Core.Path.{◌≡◌, refl, sym, ap, ap₂, ◌∙◌}
use mathlib.Core.Bool.{Bool, true, false, cond}
use mathlib.Core.List.{List, [], ◌∷◌, ◌++◌, append_assoc, append-nil}
use Prim.Native.Nat.{ℕ, zero, suc, ◌+◌}
use lib.Dec.{ltb}
use lib.Ieee.{Float}
use Rattle.lists.specs.Gather.{flat_to, only_if}
use Rattle.lists.proofs.Gather.{flat_same}
use Rattle.game.specs.Codes.{side_code, positioning_code}
use Rattle.game.specs.Players.{number_at}
use Rattle.game.specs.declared.Positioning.{Positioning}
use Rattle.game.specs.declared.Side.{Side}
use Rattle.game.specs.declared.Side.TheVariants.{Home, Away}
use Rattle.game.specs.declared.Situation.{Situation}
use Rattle.conditions.specs.Conditions.{verdict_of, is_some}
use Rattle.decision.specs.Decision.{decision_of}
use Rattle.lines.specs.declared.Row.{Row}
use Rattle.sentences.specs.Sentences.{line_of}
use Rattle.sheet.specs.Rows.{row, verdict_code, verdict_row, verdict_rows}
use Rattle.coach.specs.Coach.{condition_for, sentence_of, ended, side_sentences, sentences_of}
use Rattle.sentences_hold.specs.Claims.{side_in, side_of_code, row_sentences, SheetOrderClaim}
use Rattle.sentences_hold.proofs.Verdicts.{verdict_told, some_coded}
use Rattle.sentences_hold.proofs.Kind.{verdict_lines_holds}

module _ (s : Situation) where
  sentences_append : (k l : List Row) → row_sentences s (k ++ l) ≡ row_sentences s k ++ row_sentences s l
  sentences_append [] l = refl
  sentences_append (r ∷ k) l =
      ap (λ (t : List ℕ). ended (sentence_of s (side_of_code r.side) r.number) ++ t) (sentences_append k l) ∙ sym (append_assoc (ended (sentence_of s (side_of_code r.side) r.number)) (row_sentences s k) (row_sentences s l))

  sentences_flat : (n : ℕ) (f : ℕ → List Row) → row_sentences s (flat_to n f) ≡ flat_to n (λ i. row_sentences s (f i))
  unfolding flat_to
  sentences_flat zero f = refl
  sentences_flat (suc n) f = sentences_append (flat_to n f) (f n) ∙ ap (λ (t : List ℕ). t ++ row_sentences s (f n)) (sentences_flat n f)

  side_back : (side : Side) → side_of_code (side_code side) ≡ side
  side_back Home = refl
  side_back Away = refl

  -- for one player: its line is there exactly where its sentence is not empty
  one_line : (side : Side) (n v : ℕ) (b : Bool) → b ≡ is_some (condition_for s side n) → row_sentences s (only_if b (row 1 (side_code side) n v)) ≡ ended (sentence_of s side n)
  unfolding sentence_of
  one_line side n v true e = append-nil (ended (sentence_of s (side_of_code (side_code side)) n)) ∙ ap (λ (z : Side). ended (sentence_of s z n)) (side_back side)
  one_line side n v false e = let c = condition_for s side n in ap (λ (b : Bool). ended (cond b (line_of side n (verdict_of c) c) [])) e

  side_lines : (xs ys : List Float) (side : Side) → row_sentences s (verdict_rows side (side_in (decision_of s xs ys) side).verdicts) ≡ side_sentences s side
  unfolding verdict_rows side_sentences
  side_lines xs ys side =
      let vs = (side_in (decision_of s xs ys) side).verdicts in
      sentences_flat 20 (verdict_row (side_code side) vs)
      ∙ flat_same 20 (λ i. row_sentences s (verdict_row (side_code side) vs i)) (λ i. ended (sentence_of s side (number_at i)))
      (λ i h. one_line side (i + 1) (verdict_code vs i) (ltb 0 (verdict_code vs i)) (ap (λ (v : Positioning). ltb 0 (positioning_code v)) (verdict_told s xs ys side i h) ∙ some_coded (condition_for s side (number_at i))))

pub sheet_order : SheetOrderClaim
unfolding sentences_of
sheet_order s xs ys =
    let d = decision_of s xs ys in
    sym (ap (row_sentences s) (verdict_lines_holds d)
    ∙ sentences_append s (verdict_rows Home d.home.verdicts) (verdict_rows Away d.away.verdicts)
    ∙ ap₂ (λ (k l : List ℕ). k ++ l) (side_lines s xs ys Home) (side_lines s xs ys Away))
