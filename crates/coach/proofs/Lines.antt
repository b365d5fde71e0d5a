-- The conditions on a side's players, the line of one in lent bytes, and the lines one after the other. Assumes nothing.
use mathlib.Core.Path.{◌≡◌, refl, sym, ap, ap₂, subst, ◌∙◌}
use mathlib.Core.Bool.{Bool, true, false, cond}
use mathlib.Core.List.{List, [], ◌∷◌, ◌++◌}
use Prim.Native.Nat.{ℕ, zero, suc, ◌+◌, ◌-◌, ◌*◌, ◌≤◌, ◌<◌}
use native.Mathlib.Nat.{mul-suc, zero-add}
use native.Mathlib.Numerals.{add-one}
use native.Mathlib.Omega.{arith}
use borrow.Author.Tests.{ltb-true, ltb-false}
use lib.Dec.{ltb}
use lib.ListN.{length, take, drop, set, get_or, length-append, length-take, length-drop}
use lib.Seq.{take_at, take-length}
use Rattle.lists.specs.Gather.{flat_to}
use Rattle.lists.specs.Put.{fronted, fronted_into}
use Rattle.lists.proofs.Bools.{by_test}
use Rattle.lists.proofs.Fronted.{into_fits, into_short}
use Rattle.lists.proofs.Gather.{flat_same}
use Rattle.lists.proofs.Table.{table_at}
use Rattle.game.specs.Players.{player_at, player_numbered, margins_at, team_of, number_at}
use Rattle.game.specs.declared.Player.{Player}
use Rattle.game.specs.declared.Side.{Side}
use Rattle.game.specs.declared.Side.TheVariants.{Home, Away}
use Rattle.game.specs.declared.Situation.{Situation}
use Rattle.lines.specs.Over.{over}
use Rattle.lines.proofs.Over.{over_front, over_one, over_part, over_then, over_long, Stage, stage_none, stage_next}
use Rattle.conditions.specs.Conditions.{verdict_of, is_some}
use Rattle.conditions.specs.declared.Condition.{Condition}
use Rattle.conditions.specs.declared.Condition.TheVariants.{NoCondition}
use Rattle.geometry.specs.Geometry.{side_to_sign, player_margins, compute_margins}
use Rattle.positioning.specs.Positioning.{condition_of, condition_at, team_conditions}
use Rattle.sentences.specs.Sentences.{line_of, longest, written}
use Rattle.sentences.proofs.Claims.{longest_long}
use Rattle.sheet.proofs.Texts.{text_short, text_fits}
use Rattle.coach.specs.Coach.{condition_for, line_for, sentence_of, line_answer, ended, side_sentences, sentences_of, side_conditions, lines_for}
use Rattle.std.specs.Prelude.{Option, None, Some, Result, Ok, Err, ok_or}
use Rattle.std.specs.Result.{result_unwrap_or}
use Rattle.refusal.specs.declared.Refusal.{Refusal}
use Rattle.refusal.specs.declared.Refusal.TheVariants.{TextRoom}
use Rattle.game.specs.declared.Margins.{Margins}

-- ---- the conditions on a side's players
module _ (s : Situation) (side : Side) (i : ℕ) (h : i < 20) where
  pub margins_told : margins_at (compute_margins (team_of s side) s.field (side_to_sign side s.game.sides)) i ≡ (player_margins (player_at (team_of s side) i) s.field (side_to_sign side s.game.sides))
  unfolding compute_margins
  margins_told = (table_at 20 (λ k. player_margins (player_at (team_of s side) k) s.field (side_to_sign side s.game.sides)) None i h)

  -- that of a player by its number is that by its place
  pub condition_told : condition_for s side (number_at i)
      ≡ condition_of s.game s.field s.ball side (team_of s side).goalkeeper (number_at i) (player_at (team_of s side) i) (margins_at (compute_margins (team_of s side) s.field (side_to_sign side s.game.sides)) i)
  unfolding condition_for
  condition_told =
      ap (λ (q : Player). condition_of s.game s.field s.ball side (team_of s side).goalkeeper (number_at i) q (player_margins q s.field (side_to_sign side s.game.sides))) (ap (player_numbered (team_of s side)) (add-one i))
      ∙ ap (λ (m : Option Margins). condition_of s.game s.field s.ball side (team_of s side).goalkeeper (number_at i) (player_at (team_of s side) i) m) (sym margins_told)

  pub condition_at_holds : get_or (side_conditions s side) i NoCondition ≡ condition_for s side (number_at i)
  unfolding side_conditions team_conditions
  condition_at_holds =
      (table_at 20 (condition_at s.game s.field s.ball side (team_of s side) (compute_margins (team_of s side) s.field (side_to_sign side s.game.sides))) NoCondition i h)
      ∙ sym condition_told

-- of a number that is not refused
pub numbered_at : (s : Situation) (side : Side) (n : ℕ) → 1 ≤ n → n ≤ 20 → (get_or (side_conditions s side) (n - 1) NoCondition) ≡ condition_for s side n
numbered_at s side n low high =
    let back : number_at (n - 1) ≡ n = omega arith in
    condition_at_holds s side (n - 1) (omega arith) ∙ ap (condition_for s side) back

-- ---- the line of a condition
module _ (side : Side) (n : ℕ) (c : Condition) (text : List ℕ) where
  -- there is none
  pub legal_told : is_some c ≡ false → (Ok 0 ≡ line_answer (line_for side n c) (length text)) × (text ≡ fronted_into (line_for side n c) text)
  unfolding fronted
  legal_told e =
      let empty : line_for side n c ≡ [] = ap (λ (b : Bool). cond b (line_of side n (verdict_of c) c) []) e in (
        text_fits [] 8 [] refl refl (length text) (omega arith) ∙ ap (λ (l : List ℕ). line_answer l (length text)) (sym empty),
        sym (into_fits [] text (omega arith)) ∙ ap (λ (l : List ℕ). fronted_into l text) (sym empty),
      )

  -- there is one: so many bytes of its line were written, or None where the text was too short
  pub line_told : is_some c ≡ true → (made : Option ℕ) (next : List ℕ) → made ≡ written (line_of side n (verdict_of c) c) text → next ≡ fronted_into (line_of side n (verdict_of c) c) text
      → (ok_or made TextRoom ≡ line_answer (line_for side n c) (length text)) × (next ≡ fronted_into (line_for side n c) text)
  unfolding written
  line_told e made next told left =
      let line : line_of side n (verdict_of c) c ≡ line_for side n c = ap (λ (b : Bool). cond b (line_of side n (verdict_of c) c) []) (sym e) in
      let size = length (line_of side n (verdict_of c) c) in
      let by : (b : Bool) → ltb (length text) size ≡ b → ok_or made TextRoom ≡ ok_or (cond b None (Some size)) TextRoom = λ b q. ap (λ (o : Option ℕ). ok_or o TextRoom) (told ∙ ap (λ (z : Bool). cond z None (Some size)) q) in (
        by_test (ltb (length text) size) (λ t. by true t ∙ text_short [] 8 (line_of side n (verdict_of c) c) refl refl (length text) (ltb-true _ _ t)) (λ f. by false f ∙ text_fits [] 8 (line_of side n (verdict_of c) c) refl refl (length text) (ltb-false _ _ f))
            ∙ ap (λ (l : List ℕ). line_answer l (length text)) line,
        left ∙ ap (λ (l : List ℕ). fronted_into l text) line,
      )

-- no line is longer than 74 bytes
pub line_few : (side : Side) (n : ℕ) (c : Condition) → length (line_for side n c) ≤ longest
line_few side n c = go (is_some c)
  where
    go : (b : Bool) → length (cond b (line_of side n (verdict_of c) c) []) ≤ longest
    go true = longest_long side n (verdict_of c) c
    go false = omega arith

-- ---- with a line feed
ended_none : (l : List ℕ) → length l ≡ 0 → ended l ≡ []
ended_none [] e = refl
ended_none (x ∷ l) e = absurd (omega (arith, e))

ended_some : (l : List ℕ) → (length l ≡ 0 → ⊥) → ended l ≡ l ++ (10 ∷ [])
ended_some [] h = absurd (h refl)
ended_some (x ∷ l) h = refl

ended_few : (l : List ℕ) (k : ℕ) → length l ≤ k → length (ended l) ≤ k + 1
ended_few [] k h = omega arith
ended_few (x ∷ l) k h = omega (arith, length-append (x ∷ l) (10 ∷ []))

module _ (side : Side) (n : ℕ) (c : Condition) (lines : List ℕ) (at : ℕ) (room : at + 75 ≤ length lines)
    (answer : Result ℕ Refusal) (part : List ℕ) (told : answer ≡ line_answer (line_for side n c) (length (take (length lines - at) (drop at lines))))
    (left : part ≡ fronted_into (line_for side n c) (take (length lines - at) (drop at lines))) (size : ℕ) (sized : size ≡ result_unwrap_or answer 0) where
  part_long : length (take (length lines - at) (drop at lines)) ≡ length lines - at
  part_long = omega (arith, length-take (length lines - at) (drop at lines), length-drop at lines)

  enough : length (line_for side n c) ≤ length (take (length lines - at) (drop at lines))
  enough = omega (arith, part_long, line_few side n c)

  pub size_told : size ≡ length (line_for side n c)
  size_told = sized ∙ ap (λ (r : Result ℕ Refusal). result_unwrap_or r 0) (told ∙ sym (text_fits [] 8 (line_for side n c) refl refl _ enough))

  -- the line stands there
  pub part_over : take at lines ++ (part ++ drop (length lines - at) (drop at lines)) ≡ over at (line_for side n c) lines
  part_over = over_part lines (line_for side n c) part at (left ∙ into_fits (line_for side n c) _ enough)

  -- there is room for a line feed after it
  pub part_room : at + size < length (take at lines ++ (part ++ drop (length lines - at) (drop at lines)))
  part_room = let few = line_few side n c in omega (arith, ap length part_over, over_long at (line_for side n c) lines (omega (arith, few, room)), size_told, few, room)

  -- it is empty
  pub ended_empty : size ≡ 0 → (at ≡ at + length (ended (line_for side n c))) × (take at lines ++ (part ++ drop (length lines - at) (drop at lines)) ≡ over at (ended (line_for side n c)) lines)
  ended_empty z =
      let none : length (line_for side n c) ≡ 0 = sym size_told ∙ z in
      let e : ended (line_for side n c) ≡ line_for side n c = ended_none (line_for side n c) none ∙ sym (nothing (line_for side n c) none) in
      (omega (arith, ap length e, none), part_over ∙ ap (λ (l : List ℕ). over at l lines) (sym e))
    where
      nothing : (l : List ℕ) → length l ≡ 0 → l ≡ []
      nothing [] q = refl
      nothing (x ∷ l) q = absurd (omega (arith, q))

  -- it is not, and a line feed was stored after it
  pub ended_line : (size ≡ 0 → ⊥) → (next : List ℕ) → next ≡ set (take at lines ++ (part ++ drop (length lines - at) (drop at lines))) (at + size) 10
      → (at + size + 1 ≡ at + length (ended (line_for side n c))) × (next ≡ over at (ended (line_for side n c)) lines)
  ended_line h next e =
      let l = line_for side n c in
      let same : ended l ≡ l ++ (10 ∷ []) = ended_some l (λ q. h (size_told ∙ q)) in
      let mid = take at lines ++ (part ++ drop (length lines - at) (drop at lines)) in
      let end : at + size ≡ at + length l = ap (λ (k : ℕ). at + k) size_told in
      let few = line_few side n c in (
        omega (arith, ap length same, length-append l (10 ∷ []), size_told),
        e ∙ over_one (at + size) 10 mid part_room ∙ ap (over (at + size) (10 ∷ [])) part_over ∙ over_then at (at + size) l (10 ∷ []) lines end (omega (arith, size_told, few, room))
            ∙ ap (λ (t : List ℕ). over at t lines) (sym same),
      )

-- ---- a side's lines
module _ (side : Side) (conditions : List Condition) where
  -- the line on the player at a place, with a line feed
  abbrev pub line_at : ℕ → List ℕ
  line_at i = ended (line_for side (number_at i) (get_or conditions i NoCondition))

  -- the first i
  abbrev pub lines_to : ℕ → List ℕ
  lines_to i = flat_to i line_at

  pub lines_few : (i : ℕ) → length (lines_to i) ≤ 75 * i
  unfolding flat_to
  lines_few zero = omega arith
  lines_few (suc i) =
      let c = get_or conditions i NoCondition in
      omega (arith, lines_few i, length-append (lines_to i) (line_at i), ended_few (line_for side (number_at i) c) longest (line_few side (number_at i) c), mul-suc 75 i)

  pub lines_none : (at : ℕ) (xs : List ℕ) → Stage at xs (lines_to 0) xs at
  unfolding flat_to
  lines_none at xs = stage_none at xs

  lines_more : (i : ℕ) → lines_to (i + 1) ≡ lines_to i ++ line_at i
  unfolding flat_to
  lines_more i = ap lines_to (add-one i)

  pub lines_next : (i : ℕ) {at next : ℕ} {xs cur : List ℕ} (m : ℕ) (after : List ℕ) → Stage at xs (lines_to i) cur next → next ≤ length xs → m ≡ next + length (line_at i) → after ≡ over next (line_at i) cur → length after ≡ length cur
      → Stage at xs (lines_to (i + 1)) after m
  lines_next i {at} {next} {xs} {cur} m after e room p q l = subst (λ (t : List ℕ). Stage at xs t after m) (sym (lines_more i)) (stage_next (line_at i) after m e room q p l)

  pub side_few : length (lines_for side conditions) ≤ 1500
  unfolding lines_for
  side_few = omega (arith, lines_few 20)

-- those of a situation's conditions are its sentences
pub lines_told : (s : Situation) (side : Side) (conditions : List Condition) → conditions ≡ side_conditions s side → lines_for side conditions ≡ side_sentences s side
unfolding lines_for side_sentences sentence_of
lines_told s side conditions e =
    ap (lines_for side) e
    ∙ flat_same 20 (line_at side (side_conditions s side)) (λ i. ended (sentence_of s side (number_at i))) (λ i h. ap (λ (c : Condition). ended (line_for side (number_at i) c)) (condition_at_holds s side i h))

-- ---- all lines
-- they stand at the front of bytes, up to a place
pub record AllWritten (s : Situation) (cur : List ℕ) (end : ℕ) : Type 0 where
  pub front : take end cur ≡ sentences_of s
  pub far : end ≡ length (sentences_of s)
  pub inside : end ≤ length cur

-- one side's after the other's
pub all_written : (s : Situation) (home away : List Condition) → home ≡ side_conditions s Home → away ≡ side_conditions s Away → (lines mid cur : List ℕ) (middle end : ℕ) → length lines ≡ 3000 → mid ≡ over 0 (lines_for Home home) lines
    → middle ≡ 0 + length (lines_for Home home) → length mid ≡ length lines → cur ≡ over middle (lines_for Away away) mid → end ≡ middle + length (lines_for Away away) → length cur ≡ length mid → AllWritten s cur end
unfolding sentences_of fronted
all_written s home away a b lines mid cur middle end room p m l q e k =
    let few = side_few Home home in
    let both = stage_next (lines_for Away away) cur end (stage_next (lines_for Home home) mid middle (stage_none 0 lines) (omega arith) p m l) (omega (arith, m, few)) q e k in
    let same : lines_for Home home ++ lines_for Away away ≡ sentences_of s = ap₂ (λ (x y : List ℕ). x ++ y) (lines_told s Home home a) (lines_told s Away away b) in
    let stage = subst (λ (t : List ℕ). Stage 0 lines t cur end) same both in
    let far : end ≡ length (sentences_of s) = stage.end ∙ zero-add (length (sentences_of s)) in
    record {
      front = ap (take end) (stage.written ∙ over_front (sentences_of s) lines) ∙ take_at (sentences_of s) (drop (length (sentences_of s)) lines) end (sym far);
      far = far;
      inside = omega (arith, m, e, l, k, few, side_few Away away);
    }

module _ (s : Situation) (cur : List ℕ) (end : ℕ) (w : AllWritten s cur end) where
  -- the text is shorter
  pub all_short_holds : (text : List ℕ) → length text < end → (Err TextRoom ≡ line_answer (sentences_of s) (length text)) × (text ≡ fronted_into (sentences_of s) text)
  all_short_holds text h =
      let short : length text < length (sentences_of s) = omega (arith, w.far) in
      (text_short [] 8 (sentences_of s) refl refl (length text) short, sym (into_short (sentences_of s) text short))

  -- it is not, and they were copied
  pub all_copied : (text next : List ℕ) (n : ℕ) → end ≤ length text → n ≡ length (take end cur) → next ≡ take (length (take end cur)) (take end cur) ++ drop (length (take end cur)) text
      → (Ok n ≡ line_answer (sentences_of s) (length text)) × (next ≡ fronted_into (sentences_of s) text)
  unfolding fronted
  all_copied text next n h z e =
      let fits : length (sentences_of s) ≤ length text = omega (arith, w.far) in (
        ap Ok (z ∙ ap length w.front) ∙ text_fits [] 8 (sentences_of s) refl refl (length text) fits,
        e
            ∙ ap (λ (t : List ℕ). take (length t) t ++ drop (length t) text) w.front
            ∙ ap (λ (t : List ℕ). t ++ drop (length (sentences_of s)) text) (take-length (sentences_of s))
            ∙ sym (into_fits (sentences_of s) text fits),
      )

  -- the same where they were copied into the part of that length
  pub all_stored : (text part : List ℕ) → end ≤ length text → part ≡ take end cur → (Ok end ≡ line_answer (sentences_of s) (length text)) × (part ++ drop end text ≡ fronted_into (sentences_of s) text)
  unfolding fronted
  all_stored text part h e =
      let fits : length (sentences_of s) ≤ length text = omega (arith, w.far) in (
        ap Ok w.far ∙ text_fits [] 8 (sentences_of s) refl refl (length text) fits,
        ap (λ (t : List ℕ). t ++ drop end text) (e ∙ w.front)
            ∙ ap (λ (k : ℕ). sentences_of s ++ drop k text) w.far
            ∙ sym (into_fits (sentences_of s) text fits),
      )
