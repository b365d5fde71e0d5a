-- What `record_at` gives by the tests of the code, and where a whole record lies. Assumes nothing.
use mathlib.Core.Path.{◌≡◌, refl, ap, sym, ◌∙◌}
use mathlib.Core.Bool.{Bool, true, false, ◌&&◌, cond}
use mathlib.Core.List.{List, [], ◌∷◌}
use Prim.Native.Nat.{ℕ, zero, suc, ◌+◌, ◌-◌, ◌≤◌, ◌<◌}
use native.Mathlib.Nat.{not-suc-le-zero, le_of_suc-le-suc}
use native.Mathlib.Omega.{arith}
use borrow.Author.Tests.{ltb-false, lt-ltb, le-ltb}
use lib.Dec.{eqb, ltb}
use lib.ListN.{length, take, drop, get_or}
use Rattle.std.specs.Prelude.{Option, None, Some, Result, Ok, Err}
use Rattle.numbers.specs.declared.Unread.{Unread}
use Rattle.numbers.specs.Numbers.{numbers_of, reading_of, stored}
use Rattle.records.specs.declared.Record.{Record}
use Rattle.records.specs.Records.{line_at, head_at, is_head, framed, record_at}

-- an element that is there, whatever stands for one that is not
pub either_default : (l : List ℕ) (i d e : ℕ) → i < length l → get_or l i d ≡ get_or l i e
either_default [] i d e h = absurd (not-suc-le-zero h)
either_default (x ∷ l) zero d e h = refl
either_default (x ∷ l) (suc i) d e h = either_default l i d e (le_of_suc-le-suc h)

-- ---- a head
-- one that says more bytes than there are
pub framed_short : (size input n m : ℕ) (head : List ℕ) → n ≡ get_or head 2 0 → m ≡ get_or head 3 0 → size - input < n + m → None ≡ framed size input head
unfolding framed
framed_short size input n m head en em h = simp (lt-ltb (size - input) (get_or head 2 0 + get_or head 3 0) (rw (en, em) at h))

-- one whose bytes are there
pub framed_whole : (size input k n m : ℕ) (head : List ℕ) → k ≡ get_or head 1 0 → n ≡ get_or head 2 0 → m ≡ get_or head 3 0 → n + m ≤ size - input
    → Some (record { kind = get_or head 0 0; lent = k; input = input; answer = input + n; next = input + (n + m) }) ≡ framed size input head
unfolding framed
framed_whole size input k n m head ek en em h =
    simp (ek, en, em, le-ltb (size - input) (get_or head 2 0 + get_or head 3 0) (rw (en, em) at h))

-- ---- a reading with a fault is no head
unread : (g : Result ℕ Unread) (last : ℕ) → ((n : ℕ) → g ≡ Ok n → ⊥) → false ≡ is_head g last
unread (Ok n) last h = absurd (h n refl)
unread (Err u) last h = refl

-- ---- a place with 45 bytes or more after it, whose line has the reading g
long : (at : ℕ) → at + 45 - at ≡ 45
long at = omega arith

module _ (list : List ℕ) (at : ℕ) (g : Result ℕ Unread) (enough : 45 ≤ length list - at) (read : g ≡ reading_of (take (at + 45 - at) (drop at list))) where
  by_head : (b : Bool) → b ≡ is_head g (get_or list (at + 44) 0) → record_at list at ≡ cond b (framed (length list) (at + 45) (head_at list at)) None
  unfolding record_at
  by_head b tested = simp (le-ltb (length list - at) 45 enough, tested, read, long)

  pub at_unread : ((n : ℕ) → g ≡ Ok n → ⊥) → None ≡ record_at list at
  at_unread h = sym (by_head false (unread g (get_or list (at + 44) 0) h))

  -- n numbers were read: b tells whether they are four and a line feed is the last byte
  module _ (n : ℕ) (told : g ≡ Ok n) where
    is_head_holds : {b : Bool} → (eqb n 4 && eqb (get_or list (at + 44) 0) 10) ≡ b → b ≡ is_head g (get_or list (at + 44) 0)
    is_head_holds tested = sym tested ∙ sym (ap (λ (r : Result ℕ Unread). is_head r (get_or list (at + 44) 0)) told)

    -- the numbers of the head were stored
    pub at_head : (head : List ℕ) (r : Option Record) → (eqb n 4 && eqb (get_or list (at + 44) 0) 10) ≡ true
        → head ≡ stored (numbers_of (take (at + 45 - at) (drop at list))) (0 ∷ 0 ∷ 0 ∷ 0 ∷ []) → r ≡ framed (length list) (at + 45) head → r ≡ record_at list at
    at_head head r tested eh er =
        let same : head ≡ head_at list at = eh ∙ ap (λ (k : ℕ). stored (numbers_of (take k (drop at list))) (0 ∷ 0 ∷ 0 ∷ 0 ∷ [])) (long at) in
        er ∙ ap (framed (length list) (at + 45)) same ∙ sym (by_head true (is_head_holds tested))

    pub at_no_head : (eqb n 4 && eqb (get_or list (at + 44) 0) 10) ≡ false → None ≡ record_at list at
    at_no_head tested = sym (by_head false (is_head_holds tested))

-- ---- a whole record
-- it lies in a list of so many bytes, the input before the answer
abbrev pub Within : ℕ → Record → Type 0
Within size r = (r.input ≤ r.answer) × (r.answer ≤ r.next) × (r.next ≤ size)

framed_within : (size input k l n m : ℕ) (r : Record) (b : Bool) → ltb (size - input) (n + m) ≡ b → input ≤ size
    → cond b None (Some (record { kind = k; lent = l; input = input; answer = input + n; next = input + (n + m) })) ≡ Some r → Within size r
framed_within size input k l n m r true t h e = let bad : ◌≡◌ {A = ℕ} 0 1 = cc in absurd (omega (arith, bad))
framed_within size input k l n m r false t h e =
    let same : ◌≡◌ {A = Record} (record { kind = k; lent = l; input = input; answer = input + n; next = input + (n + m) }) r = cc in
    let from : input ≡ r.input = ap (λ (x : Record). x.input) same in
    let mid : input + n ≡ r.answer = ap (λ (x : Record). x.answer) same in
    let end : input + (n + m) ≡ r.next = ap (λ (x : Record). x.next) same in
    let fits : n + m ≤ size - input = ltb-false (size - input) (n + m) t in
    (omega (arith, from, mid), omega (arith, mid, end), omega (arith, end, fits, h))

tested_within : (list : List ℕ) (at : ℕ) (r : Record) (b c : Bool) → ltb (length list - at) 45 ≡ b
    → cond b None (cond c (framed (length list) (at + 45) (head_at list at)) None) ≡ Some r → Within (length list) r
unfolding framed
tested_within list at r true c t e = let bad : ◌≡◌ {A = ℕ} 0 1 = cc in absurd (omega (arith, bad))
tested_within list at r false false t e = let bad : ◌≡◌ {A = ℕ} 0 1 = cc in absurd (omega (arith, bad))
tested_within list at r false true t e =
    let far : 45 ≤ length list - at = ltb-false (length list - at) 45 t in
    framed_within (length list) (at + 45) _ _ _ _ r _ refl (omega (arith, far)) e

pub whole_within : (list : List ℕ) (at : ℕ) (r : Record) → record_at list at ≡ Some r → Within (length list) r
unfolding record_at
whole_within list at r e = tested_within list at r _ (is_head (reading_of (line_at list at)) (get_or list (at + 44) 0)) refl e
