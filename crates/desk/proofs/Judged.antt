-- What the reply adds to the sheet's writer, and the earlier places among the numbers. Assumes nothing.
use mathlib.Core.Path.{◌≡◌, refl, sym, ap, ap₂, ◌∙◌}
use mathlib.Core.Bool.{Bool, true, false, cond}
use mathlib.Core.List.{List}
use Prim.Native.Nat.{ℕ, ◌+◌, ◌≤◌, ◌<◌, min}
use native.Mathlib.Omega.{arith}
use lib.Dec.{eqb, ltb}
use lib.Ieee.{Float, binary32, of_bits}
use lib.ListN.{length, take, drop, get_or, replicate, length-append, length-take, length-drop, length-replicate}
use lib.Seq.{take_at, get_or-take, get_or-drop}
use Rattle.std.specs.Prelude.{Result, Ok, Err}
use Rattle.lists.specs.Put.{fronted, fronted_into}
use Rattle.lists.specs.Table.{table}
use Rattle.lists.proofs.Table.{length_table, table_same}
use Rattle.game.specs.declared.Situation.{Situation}
use Rattle.refusal.specs.Refusal.{number_of, refused}
use Rattle.refusal.specs.declared.Refusal.{Refusal}
use Rattle.refusals.specs.Refusals.{refusal_of}
use Rattle.replies.specs.Replies.{fault_line, refused_line, line_in, written_in}
use Rattle.replies.proofs.Places.{line_known}
use Rattle.call.proofs.Answers as Sheets
use Rattle.coach.proofs.Answers as Coach
use Rattle.numbers.specs.Numbers.{numbers_of, stored}
use Rattle.words.specs.Words.{situation_of}
use Rattle.columns.specs.Layout.{word_count}
use Rattle.input.specs.Input.{first_x, first_y, numbers_for, most_numbers, input_of, places_in}
use Rattle.input.specs.declared.Lists.{Lists}
use Rattle.input.specs.declared.Wrong.{Wrong}
use Rattle.input.proofs.Faults.{fault_known}
use Rattle.input.proofs.Places.{parts}
use Rattle.input.proofs.Stored.{stored_at, stored_front}
use Rattle.desk.specs.declared.Reply.{Reply}
use Rattle.desk.specs.declared.Reply.TheVariants.{Answer, Told}
use Rattle.desk.specs.declared.Wanted.{Wanted}
use Rattle.desk.specs.declared.Wanted.TheVariants.{Sheet, Sentences}
use Rattle.desk.specs.Desk.{Printed, answer, told, answer_printed, wanted_text, wanted_answer, wanted_after, situation_printed, places_from, numbers_printed, input_printed, text_printed, printed_in, reply_in}

-- what the code adds to bytes that already hold the sheet of the answer
abbrev added_reply : Result ℕ Refusal → List ℕ → Reply
added_reply (Err e) out = Told (written_in (refused_line (number_of e)) out)
added_reply (Ok n) out = Answer n

abbrev added_out : Result ℕ Refusal → List ℕ → List ℕ
added_out (Err e) out = line_in (refused_line (number_of e)) out
added_out (Ok n) out = out

-- what is printed, and the bytes after it
abbrev Prints : Reply → List ℕ → Printed → List ℕ → Type 0
Prints r next p out = (r ≡ reply_in p out) × (next ≡ printed_in p out)

-- the same by another description of it
pub prints_as : (p same : Printed) (out next : List ℕ) (r : Reply) → p ≡ same → Prints r next p out → Prints r next same out
prints_as p same out next r e t = (t.0 ∙ ap (λ (u : Printed). reply_in u out) e, t.1 ∙ ap (λ (u : Printed). printed_in u out) e)

-- a line that is told
pub told_printed : (text out next : List ℕ) (n : ℕ) → n ≡ written_in text out → next ≡ line_in text out → Prints (Told n) next (told text) out
unfolding reply_in printed_in
told_printed text out next n a b = (ap Told a, b)

-- a text that is answered
pub answer_said : (text out next : List ℕ) (n : ℕ) → n ≡ written_in text out → next ≡ line_in text out → Prints (Answer n) next (answer text) out
unfolding reply_in printed_in
answer_said text out next n a b = (ap Answer a, b)

-- an answer of a text, and what the reply makes of it: the refusal r, and then k, of the lent bytes
module _ (r k : ℕ) (text out : List ℕ) where
  prints : (b f : Bool) → ltb (length out) (length text) ≡ f
      → (let a = cond b (cond f (refused k) (Ok (length text))) (refused r) in
      let mid = cond b (cond f out (fronted text out)) out in
      Prints (added_reply a mid) (added_out a mid) (answer_printed a text) out)
  unfolding written_in fronted_into reply_in printed_in
  prints false f e = (refl, refl)
  prints true true e = (refl, refl)
  prints true false e = (ap (λ (b : Bool). Answer (cond b 0 (length text))) (sym e), ap (λ (b : Bool). cond b out (fronted text out)) (sym e))

  answer_printed_holds : (a : Result ℕ Refusal) (mid next : List ℕ) (reply : Reply) → a ≡ cond (eqb r 0) (cond (ltb (length out) (length text)) (refused k) (Ok (length text))) (refused r) → mid ≡ cond (eqb r 0) (fronted_into text out) out
      → reply ≡ added_reply a mid → next ≡ added_out a mid → Prints reply next (answer_printed a text) out
  unfolding fronted_into
  answer_printed_holds a mid next reply ea em er ex =
      let t = prints (eqb r 0) (ltb (length out) (length text)) refl in
      prints_as _ _ out next reply (ap (λ (z : Result ℕ Refusal). answer_printed z text) (sym ea)) (er ∙ ap₂ added_reply ea em ∙ t.0, ex ∙ ap₂ added_out ea em ∙ t.1)

-- where this is wanted: the first refusal before that of the lent bytes, and the number of that one
wanted_refusal : Wanted → Situation → List Float → List Float → ℕ
wanted_refusal (Sheet to) s xs ys = Sheets.refusal_for to s xs ys
wanted_refusal Sentences s xs ys = refusal_of s xs ys

room_number : Wanted → ℕ
room_number (Sheet to) = 7
room_number Sentences = 8

answer_cases : (w : Wanted) (s : Situation) (xs ys : List Float) (lent : ℕ)
    → wanted_answer w s xs ys lent ≡ cond (eqb (wanted_refusal w s xs ys) 0) (cond (ltb lent (length (wanted_text w s xs ys))) (refused (room_number w)) (Ok (length (wanted_text w s xs ys)))) (refused (wanted_refusal w s xs ys))
unfolding wanted_refusal room_number
answer_cases (Sheet to) s xs ys lent = Sheets.answer_cases to s xs ys lent
answer_cases Sentences s xs ys lent = Coach.answer_cases s xs ys lent

after_told : (w : Wanted) (s : Situation) (xs ys : List Float) (out : List ℕ) → wanted_after w s xs ys out ≡ cond (eqb (wanted_refusal w s xs ys) 0) (fronted_into (wanted_text w s xs ys) out) out
unfolding wanted_refusal
after_told (Sheet to) s xs ys out = Sheets.after_told to s xs ys out
after_told Sentences s xs ys out = Coach.after_told s xs ys out

pub reply_printed : (w : Wanted) (s : Situation) (xs ys : List Float) (out : List ℕ) (a : Result ℕ Refusal) (mid next : List ℕ) (r : Reply) → a ≡ wanted_answer w s xs ys (length out) → mid ≡ wanted_after w s xs ys out → r ≡ added_reply a mid → next ≡ added_out a mid
    → Prints r next (situation_printed w s xs ys (length out)) out
unfolding situation_printed
reply_printed w s xs ys out a mid next r ea em er ex =
    prints_as _ _ out next r (ap (λ (z : Result ℕ Refusal). answer_printed z (wanted_text w s xs ys)) ea)
    (answer_printed_holds (wanted_refusal w s xs ys) (room_number w) (wanted_text w s xs ys) out a mid next r (ea ∙ answer_cases w s xs ys (length out)) (em ∙ after_told w s xs ys out) er ex)

-- ---- the earlier places among the numbers
-- the floats of a part of the numbers, taken from the front of the places that hold them
pub places_told : (ns : List ℕ) (from n k : ℕ) (xs₀ xs : List Float) → k ≡ n → xs ≡ places_in (take k (drop from ns)) xs₀ → n ≤ length xs₀ → from + n ≤ length ns → take n xs ≡ places_from ns from n
unfolding places_in places_from fronted
places_told ns from n k xs₀ xs same e room low =
    let part : List ℕ = take k (drop from ns) in
    let f : ℕ → Float = λ i. of_bits binary32 (get_or part i 0) in
    let count : min (length part) (length xs₀) ≡ n = omega (arith, length-take k (drop from ns), length-drop from ns) in
    ap (take n) e
    ∙ take_at (table (min (length part) (length xs₀)) f) _ n (length_table _ f ∙ count)
    ∙ ap (λ (m : ℕ). table m f) count
    ∙ table_same n f (λ i. of_bits binary32 (get_or ns (from + i) 0)) (λ i h. ap (of_bits binary32) (get_or-take k (drop from ns) i 0 (omega (arith, same, h)) ∙ get_or-drop from ns i 0))

pub printed_same : (wanted : Wanted) (s s' : Situation) (xs xs' ys ys' : List Float) (lent : ℕ) → s ≡ s' → xs ≡ xs' → ys ≡ ys' → situation_printed wanted s xs ys lent ≡ situation_printed wanted s' xs' ys' lent
printed_same wanted s s' xs xs' ys ys' lent a b c =
    ap (λ (z : Situation). situation_printed wanted z xs ys lent) a ∙ ap₂ (λ (v w : List Float). situation_printed wanted s' v w lent) b c

-- the numbers stay as many
pub stored_long : (ns ms : List ℕ) → ms ≡ stored ns (replicate most_numbers 0) → length ms ≡ most_numbers
unfolding stored fronted
stored_long ns ms e =
    let buffer : List ℕ = replicate most_numbers 0 in
    let long : length buffer ≡ most_numbers = length-replicate {A = ℕ} most_numbers 0 in
    let front : List ℕ = take (length buffer) ns in
    omega (arith, ap length e, long, length-append front (drop (length front) buffer), length-take (length buffer) ns, length-drop (length front) buffer)

-- ---- by what the text is
judged_as : (wanted : Wanted) (text : List ℕ) (lent : ℕ) (i : Result Lists Wrong) → input_of text ≡ i → input_printed wanted i (numbers_of text) lent ≡ text_printed wanted text lent
unfolding text_printed
judged_as wanted text lent i e = ap (λ (z : Result Lists Wrong). input_printed wanted z (numbers_of text) lent) (sym e)

-- a text that is no situation: what is told by the numbers that were stored is told of the text
pub judged_wrong : (wanted : Wanted) (text ms : List ℕ) (w : Wrong) (lent : ℕ) → input_of text ≡ Err w → ms ≡ stored (numbers_of text) (replicate most_numbers 0) → told (fault_line ms w.place w.fault) ≡ text_printed wanted text lent
judged_wrong wanted text ms w lent e m =
    let long : length {A = ℕ} (replicate most_numbers 0) ≡ most_numbers = length-replicate {A = ℕ} most_numbers 0 in
    ap (λ (l : List ℕ). told (fault_line l w.place w.fault)) m
    ∙ ap told (line_known _ _ w.place w.fault (fault_known text (replicate most_numbers 0) w long e))
    ∙ judged_as wanted text lent (Err w) e

-- a situation, read from the numbers that were stored
pub judged_read : (wanted : Wanted) (text ms : List ℕ) (l : Lists) (lent : ℕ) → input_of text ≡ Ok l → ms ≡ stored (numbers_of text) (replicate most_numbers 0) → numbers_printed wanted ms l.xs l.ys lent ≡ text_printed wanted text lent
unfolding numbers_printed places_from
judged_read wanted text ms l lent e m =
    let nx = l.xs in
    let ny = l.ys in
    let p = parts text l e in
    let ns = numbers_of text in
    let buffer : List ℕ = replicate most_numbers 0 in
    let long : length buffer ≡ most_numbers = length-replicate {A = ℕ} most_numbers 0 in
    let words : take word_count ms ≡ take word_count ns = ap (take word_count) m ∙ stored_front ns buffer word_count (omega (arith, p.whole)) (omega (arith, long)) in
    let at : (k : ℕ) → k < numbers_for nx ny → get_or ms k 0 ≡ get_or ns k 0 =
    λ k h. ap (λ (l : List ℕ). get_or l k 0) m ∙ stored_at ns buffer k (omega (arith, h, p.whole)) (omega (arith, h, p.few_x, p.few_y, long)) in
    let float : (k : ℕ) → k < numbers_for nx ny → of_bits binary32 (get_or ms k 0) ≡ of_bits binary32 (get_or ns k 0) = λ k h. ap (of_bits binary32) (at k h) in
    printed_same wanted _ _ _ _ _ _ lent (ap situation_of words)
    (table_same nx (λ k. of_bits binary32 (get_or ms (first_x + k) 0)) (λ k. of_bits binary32 (get_or ns (first_x + k) 0)) (λ k h. float (first_x + k) (omega (arith, h))))
    (table_same ny (λ k. of_bits binary32 (get_or ms (first_y + nx + k) 0)) (λ k. of_bits binary32 (get_or ns (first_y + nx + k) 0)) (λ k h. float (first_y + nx + k) (omega (arith, h))))
    ∙ judged_as wanted text lent (Ok l) e
