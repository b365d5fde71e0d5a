-- What a step gives: the frame, or the refusal alone. Assumes nothing.
use Rattle.std.proofs.Common.{◌≡◌, sym, ap, ◌∙◌, Bool, cond, List, eqb, eq-eqb, ne_eqb}
use lib.Ieee.{Float}
use Rattle.std.specs.Prelude.{⊤, Result, Ok, Err}
use Rattle.game.specs.declared.Situation.{Situation}
use Rattle.refusal.specs.Refusal.{refusal_numbered, unless_refused}
use Rattle.refusal.specs.declared.Refusal.{Refusal}
use Rattle.refusal.proofs.Told.{not_refused, refused_by}
use Rattle.decision.specs.Decision.{empty_decision}
use Rattle.frames.specs.declared.Events.{Events}
use Rattle.frames.specs.declared.Framed.{Framed}
use Rattle.frames.specs.declared.Memory.{Memory}
use Rattle.frames.specs.declared.Touched.{Touched}
use Rattle.frames.specs.Frames.{ball_contact, frame_of, played_frame, step_refusal, no_calls, accepted, refused, step_of, played}

module _ (m : Memory) (s : Situation) (e : Events) (xs ys : List Float) where
  pub frame_played : (t : Touched) (f : Framed) → t ≡ ball_contact e.touch s m → f ≡ frame_of s e xs ys t.call t.memory → f ≡ played_frame m s e xs ys
  unfolding played_frame
  frame_played t f et ef = ef ∙ ap (λ (u : Touched). frame_of s e xs ys u.call u.memory) et

  given : Bool → Result Framed Refusal
  given b = played (cond b (accepted (played_frame m s e xs ys)) (refused (step_refusal m s e xs ys) m))

  pub step_played : (f : Framed) → ◌≡◌ {A = Result ⊤ Refusal} (Ok tt) (unless_refused (step_refusal m s e xs ys) tt) → f ≡ played_frame m s e xs ys → Ok f ≡ played (step_of m s e xs ys)
  unfolding given step_of
  step_played f h ef = ap Ok ef ∙ ap given (sym (eq-eqb (step_refusal m s e xs ys) 0 (not_refused (step_refusal m s e xs ys) tt tt h).0))

  pub step_refused : (r : Refusal) → ◌≡◌ {A = Result ⊤ Refusal} (Err r) (unless_refused (step_refusal m s e xs ys) tt) → Err r ≡ played (step_of m s e xs ys)
  unfolding given step_of
  step_refused r h =
      let p = refused_by (step_refusal m s e xs ys) tt r h in
      let no = sym (ne_eqb (step_refusal m s e xs ys) 0 p.0) in
      ap Err p.1
      ∙ ap (λ (b : Bool). cond b (Ok (record { memory = m; calls = no_calls; decision = empty_decision })) (Err (refusal_numbered (step_refusal m s e xs ys)))) no
      ∙ ap given no
