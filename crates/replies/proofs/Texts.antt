-- The texts in the code: each lies between its start and the next, and whose a word is with its name after it is what the word is called. Assumes nothing.
use mathlib.Core.Path.{◌≡◌, refl, sym, ap, ap₂, ◌∙◌}
use mathlib.Core.Bool.{Bool, true, ◌&&◌}
use mathlib.Core.List.{List, [], ◌∷◌, ◌++◌}
use Prim.Native.Nat.{ℕ, zero, suc, ◌+◌, ◌-◌, ◌*◌, ◌≤◌, ◌<◌}
use native.Mathlib.Nat.{not-suc-le-zero, le_of_suc-le-suc}
use native.Mathlib.Numerals.{add-one}
use native.Mathlib.Omega.{arith}
use borrow.Author.Tests.{leb-true}
use lib.Dec.{eqb, leb}
use lib.ListN.{length, take, drop, get_or, length-append, get_or-eq_default}
use lib.Seq.{take_at, drop-append-add}
use Rattle.lists.specs.Gather.{flat_to}
use Rattle.lists.specs.Table.{table}
use Rattle.lists.proofs.Bools.{both_true}
use Rattle.lists.proofs.Table.{table_at}
use Rattle.columns.specs.Layout.{word_count}
use Rattle.text.specs.Decimal.{decimal_from}
use Rattle.replies.specs.Labels.{Owner, nobody, side, player, Named, named, after, labels_of}
use Rattle.replies.specs.Names.{names}
use Rattle.replies.specs.Texts.{names_of, texts, text_at, owners_of, places_of, owners, called, start_of, flatten}
use Rattle.replies.specs.Replies.{label_of}

-- ---- texts one after the other
start_first : (ts : List (List ℕ)) → start_of ts 0 ≡ 0
unfolding start_of
start_first [] = refl
start_first (t ∷ ts) = refl

-- the next begins where one ends
pub start_next : (ts : List (List ℕ)) (j : ℕ) → j < length ts → start_of ts (suc j) ≡ start_of ts j + length (get_or ts j [])
unfolding start_of
start_next [] j h = absurd (not-suc-le-zero h)
start_next (t ∷ ts) zero h = omega (arith, start_first ts)
start_next (t ∷ ts) (suc j) h = omega (arith, start_next ts j (le_of_suc-le-suc h))

-- none begins past the end
pub start_le : (ts : List (List ℕ)) (j : ℕ) → start_of ts j ≤ length (flatten ts)
unfolding start_of flatten
start_le [] j = omega arith
start_le (t ∷ ts) zero = omega arith
start_le (t ∷ ts) (suc j) = omega (arith, start_le ts j, length-append t (flatten ts))

-- what lies between
pub text_between : (ts : List (List ℕ)) (j : ℕ) → take (length (get_or ts j [])) (drop (start_of ts j) (flatten ts)) ≡ get_or ts j []
unfolding start_of flatten
text_between [] j = refl
text_between (t ∷ ts) zero = take_at t (flatten ts) (length t) refl
text_between (t ∷ ts) (suc j) = ap (take (length (get_or ts j []))) (drop-append-add t (flatten ts) (start_of ts j)) ∙ text_between ts j

-- ---- the texts of the names
-- none is long
all_short : List (List ℕ) → Bool
all_short [] = true
all_short (t ∷ ts) = leb (length t) 40 && all_short ts

short_at : (ts : List (List ℕ)) → all_short ts ≡ true → (j : ℕ) → length (get_or ts j []) ≤ 40
unfolding all_short
short_at [] e j = omega arith
short_at (t ∷ ts) e zero = leb-true (length t) 40 (both_true (leb (length t) 40) (all_short ts) e).0
short_at (t ∷ ts) e (suc j) = short_at ts (both_true (leb (length t) 40) (all_short ts) e).1 j

all_short_holds : all_short texts ≡ true
unfolding all_short texts names_of names decimal_from
all_short_holds = refl

text_short : (j : ℕ) → length (text_at j) ≤ 40
text_short j = short_at texts all_short_holds j

-- ---- a text by the table of the starts
-- it lies between its start and the next
pub record Between (starts bytes : List ℕ) (j : ℕ) : Type 0 where
  pub ordered : get_or starts j 0 ≤ get_or starts (j + 1) 0
  pub inside : get_or starts (j + 1) 0 ≤ length bytes
  pub text : take (get_or starts (j + 1) 0 - get_or starts j 0) (drop (get_or starts j 0) bytes) ≡ text_at j

pub between : (j : ℕ) → j < length texts → Between (table (suc (length texts)) (start_of texts)) (flatten texts) j
between j h =
    let starts : List ℕ = table (suc (length texts)) (start_of texts) in
    let here : get_or starts j 0 ≡ start_of texts j = table_at (suc (length texts)) (start_of texts) 0 j (omega arith) in
    let there : get_or starts (j + 1) 0 ≡ start_of texts j + length (text_at j) =
    table_at (suc (length texts)) (start_of texts) 0 (j + 1) (omega arith) ∙ ap (start_of texts) (add-one j) ∙ start_next texts j h in
    let long : get_or starts (j + 1) 0 - get_or starts j 0 ≡ length (text_at j) = omega arith in
    record {
      ordered = omega arith;
      inside = omega (arith, start_next texts j h, start_le texts (suc j));
      text = ap₂ (λ (n k : ℕ). take n (drop k (flatten texts))) long here ∙ text_between texts j;
    }

-- of one that there is not, there is nothing
pub none_there : (j : ℕ) → length texts ≤ j → [] ≡ text_at j
none_there j h = sym (get_or-eq_default texts [] h)

-- ---- what the words are called
-- two texts, one after the other
joined : List ℕ → List ℕ → List (List ℕ)
joined [] ks = []
joined (j ∷ js) [] = []
joined (j ∷ js) (k ∷ ks) = (text_at j ++ text_at k) ∷ joined js ks

joined_at : (js ks : List ℕ) (i : ℕ) → i < length js → i < length ks → get_or (joined js ks) i [] ≡ text_at (get_or js i 0) ++ text_at (get_or ks i 0)
unfolding joined
joined_at [] ks i a b = absurd (not-suc-le-zero a)
joined_at (j ∷ js) [] i a b = absurd (not-suc-le-zero b)
joined_at (j ∷ js) (k ∷ ks) zero a b = refl
joined_at (j ∷ js) (k ∷ ks) (suc i) a b = joined_at js ks i (le_of_suc-le-suc a) (le_of_suc-le-suc b)

labels_joined : joined owners called ≡ labels_of names
unfolding joined texts names_of names decimal_from owners owners_of called places_of flat_to after labels_of
labels_joined = refl

tables_long : (length owners ≡ word_count) × (length called ≡ word_count)
unfolding names owners owners_of called places_of flat_to
tables_long = (refl, refl)

pub label_told : (i : ℕ) → i < word_count → text_at (get_or owners i 0) ++ text_at (get_or called i 0) ≡ label_of i
unfolding label_of
label_told i h =
    sym (joined_at owners called i (omega (arith, tables_long.0)) (omega (arith, tables_long.1))) ∙ ap (λ (l : List (List ℕ)). get_or l i []) labels_joined

pub label_few : (i : ℕ) → i < word_count → length (label_of i) ≤ 80
label_few i h =
    let j = get_or owners i 0 in
    let k = get_or called i 0 in
    omega (arith, ap length (label_told i h), length-append (text_at j) (text_at k), text_short j, text_short k)

-- ---- the runs of the names follow each other from the word 0 on, and end at the number of words
-- how many groups a run has
abbrev groups_of : Owner → ℕ
groups_of nobody = 1
groups_of side = 2
groups_of player = 40

abbrev follow_from : ℕ → List Named → Bool
follow_from n [] = eqb n word_count
follow_from n (named first owner ns ∷ runs) = eqb n first && follow_from (n + groups_of owner * length ns) runs

pub laid_out : follow_from 0 names ≡ true
unfolding names
laid_out = refl
