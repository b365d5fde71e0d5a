-- A change of signs leaves the condition on each player, and with it every line, and the list of refusals as they are. Assumes nothing.
use mathlib.Core.Path.{◌≡◌, ap, ap₂, ◌∙◌}
use mathlib.Core.Bool.{Bool, true, cond}
use mathlib.Core.List.{List, [], ◌∷◌, ◌++◌}
use Prim.Native.Nat.{ℕ}
use lib.Dec.{eqb}
use lib.Ieee.{Float}
use lib.ListN.{length, take, drop}
use Rattle.lists.specs.Put.{fronted}
use Rattle.lists.specs.Refusals.{Requirement, first_refusal}
use Rattle.lists.proofs.Gather.{flat_same}
use Rattle.game.specs.Players.{player_numbered, team_of, number_at}
use Rattle.game.specs.declared.Player.{Player}
use Rattle.game.specs.declared.Side.{Side}
use Rattle.game.specs.declared.Side.TheVariants.{Home, Away}
use Rattle.game.specs.declared.Situation.{Situation}
use Rattle.game.specs.declared.Team.{Team}
use Rattle.geometry.specs.Geometry.{side_to_sign, player_margins}
use Rattle.geometry.specs.Turned.{changed_player, changed_game, changed_ball}
use Rattle.geometry.proofs.Turned.{sign_changed, seen_margins_changed, numbered_changed}
use Rattle.positioning.specs.Positioning.{condition_of}
use Rattle.positioning.proofs.Turned.{condition_changed}
use Rattle.decision.specs.Changed.{changed, changed_places}
use Rattle.decision.proofs.Changed.{requirements_changed}
use Rattle.decision.proofs.Sides.{team_of_changed}
use Rattle.sheet.specs.Sheet.{answered}
use Rattle.coach.specs.Coach.{condition_for, line_for, sentence_of, numbered, room_for, asked_requirements, sentence_answer, sentence_after, ended, side_sentences, sentences_of, sentences_answer, sentences_after}
use Rattle.sentences_hold.specs.Claims.{BothEndsClaim, CoachHalfTurnClaim}
use Rattle.std.specs.Prelude.{Option}
use Rattle.game.specs.declared.Margins.{Margins}

module _ (a b : Bool) (s : Situation) (xs ys : List Float) where
  -- ---- the lines
  margins_same : (side : Side) (q : Player) → (player_margins (changed_player a b q) s.field (side_to_sign side (changed_game a s.game).sides)) ≡ (player_margins q s.field (side_to_sign side s.game.sides))
  margins_same side q = ap (λ (z : Float). (player_margins (changed_player a b q) s.field z)) (sign_changed a side s.game.sides) ∙ seen_margins_changed a b q.pose s.field (side_to_sign side s.game.sides)

  condition_same : (side : Side) (n : ℕ) → condition_for (changed a b s) side n ≡ condition_for s side n
  unfolding condition_for
  condition_same side n =
      let g = changed_game a s.game in
      let o = changed_ball a b s.ball in
      let sign = side_to_sign side g.sides in
      let team = team_of s side in
      ap (λ (t : Team). condition_of g s.field o side t.goalkeeper n (player_numbered t n) (player_margins (player_numbered t n) s.field sign)) (team_of_changed a b s side)
      ∙ ap (λ (q : Player). condition_of g s.field o side team.goalkeeper n q (player_margins q s.field sign)) (numbered_changed a b team n)
      ∙ ap (λ (m : Option Margins). condition_of g s.field o side team.goalkeeper n (changed_player a b (player_numbered team n)) m) (margins_same side (player_numbered team n))
      ∙ condition_changed a b s.game s.field s.ball side team.goalkeeper n (player_numbered team n) (player_margins (player_numbered team n) s.field (side_to_sign side s.game.sides))

  sentence_same : (side : Side) (n : ℕ) → sentence_of (changed a b s) side n ≡ sentence_of s side n
  unfolding sentence_of
  sentence_same side n = ap (line_for side n) (condition_same side n)

  side_same : (side : Side) → side_sentences (changed a b s) side ≡ side_sentences s side
  unfolding side_sentences
  side_same side = flat_same 20 (λ i. ended (sentence_of (changed a b s) side (number_at i))) (λ i. ended (sentence_of s side (number_at i))) (λ i h. ap ended (sentence_same side (number_at i)))

  sentences_same : sentences_of (changed a b s) ≡ sentences_of s
  unfolding sentences_of
  sentences_same = ap₂ (λ (k l : List ℕ). k ++ l) (side_same Home) (side_same Away)

  -- ---- the calls
  asked_same : (n : ℕ) → asked_requirements (changed a b s) (changed_places a xs) (changed_places b ys) n ≡ asked_requirements s xs ys n
  unfolding asked_requirements
  asked_same n = ap (λ (r : List Requirement). take 4 r ++ (numbered n ∷ drop 4 r)) (requirements_changed a b s xs ys)

  answer_same : (side : Side) (n lent : ℕ) → sentence_answer (changed a b s) (changed_places a xs) (changed_places b ys) side n lent ≡ sentence_answer s xs ys side n lent
  unfolding sentence_answer
  answer_same side n lent = ap₂ (λ (r : List Requirement) (t : List ℕ). answered (first_refusal (r ++ (room_for t lent ∷ []))) (length t)) (asked_same n) (sentence_same side n)

  after_same : (side : Side) (n : ℕ) (text : List ℕ) → sentence_after (changed a b s) (changed_places a xs) (changed_places b ys) side n text ≡ sentence_after s xs ys side n text
  unfolding sentence_after
  after_same side n text = ap₂ (λ (r : List Requirement) (t : List ℕ). cond (eqb (first_refusal (r ++ (room_for t (length text) ∷ []))) 0) (fronted t text) text) (asked_same n) (sentence_same side n)

  all_answer_same : (lent : ℕ) → sentences_answer (changed a b s) (changed_places a xs) (changed_places b ys) lent ≡ sentences_answer s xs ys lent
  unfolding sentences_answer
  all_answer_same lent = ap₂ (λ (r : List Requirement) (t : List ℕ). answered (first_refusal (r ++ (room_for t lent ∷ []))) (length t)) (requirements_changed a b s xs ys) sentences_same

  all_after_same : (text : List ℕ) → sentences_after (changed a b s) (changed_places a xs) (changed_places b ys) text ≡ sentences_after s xs ys text
  unfolding sentences_after
  all_after_same text = ap₂ (λ (r : List Requirement) (t : List ℕ). cond (eqb (first_refusal (r ++ (room_for t (length text) ∷ []))) 0) (fronted t text) text) (requirements_changed a b s xs ys) sentences_same

pub both_ends : BothEndsClaim
both_ends a b s xs ys = record { answer = answer_same a b s xs ys; after = after_same a b s xs ys; all_answer = all_answer_same a b s xs ys; all_after = all_after_same a b s xs ys }

pub coach_half_turn : CoachHalfTurnClaim
coach_half_turn s xs ys = both_ends true true s xs ys
