-- What the entries that read a sheet answer and leave. Assumes nothing.
use mathlib.Core.Path.{◌≡◌, refl, sym, ap, ◌∙◌}
use mathlib.Core.Bool.{Bool, cond}
use mathlib.Core.List.{List, [], ◌∷◌}
use Prim.Native.Nat.{ℕ, ◌≤◌, ◌<◌}
use native.Mathlib.Omega.{arith}
use borrow.Author.Tests.{le-leb, lt-leb}
use lib.IntN.{ℤ}
use lib.ListN.{length, set}
use Rattle.std.specs.Prelude.{Option, Result}
use Rattle.lists.specs.Put.{fronted}
use Rattle.lines.specs.declared.Row.{Row}
use Rattle.reading.specs.Reading.{numbers_read}
use Rattle.reading.specs.declared.NoSheet.{NoSheet}
use Rattle.referee_c.specs.Entries.{minus, line_number, line_words, item_number, item_after}

-- four words stored one after the other are the front
pub four_set : (l : List ℕ) (a b c d : ℕ) → 4 ≤ length l → set (set (set (set l 0 a) 1 b) 2 c) 3 d ≡ fronted (a ∷ b ∷ c ∷ d ∷ []) l
unfolding fronted
four_set [] a b c d h = absurd (omega arith)
four_set (u ∷ []) a b c d h = absurd (omega arith)
four_set (u ∷ v ∷ []) a b c d h = absurd (omega arith)
four_set (u ∷ v ∷ w ∷ []) a b c d h = absurd (omega arith)
four_set (u ∷ v ∷ w ∷ x ∷ l) a b c d h = refl

module _ (text : List ℕ) (line : ℕ) (item : List ℕ) where
  -- fewer than four are lent
  pub item_short : length item < 4 → (minus 100 ≡ item_number text line (length item)) × (item ≡ item_after text line item)
  unfolding item_number item_after
  item_short h =
      let f = lt-leb 4 (length item) h in
      (ap (λ (b : Bool). cond b (line_number (numbers_read text line)) (minus 100)) (sym f), ap (λ (b : Bool). cond b (fronted (line_words (numbers_read text line)) item) item) (sym f))

  -- the line is read
  pub item_told : (found : Result (Option Row) NoSheet) (n : ℤ) (next : List ℕ) → 4 ≤ length item → found ≡ numbers_read text line → n ≡ line_number found → next ≡ fronted (line_words found) item
      → (n ≡ item_number text line (length item)) × (next ≡ item_after text line item)
  unfolding item_number item_after
  item_told found n next h e en ea =
      let t = le-leb 4 (length item) h in (
        en ∙ ap line_number e ∙ ap (λ (b : Bool). cond b (line_number (numbers_read text line)) (minus 100)) (sym t),
        ea ∙ ap (λ (r : Result (Option Row) NoSheet). fronted (line_words r) item) e ∙ ap (λ (b : Bool). cond b (fronted (line_words (numbers_read text line)) item) item) (sym t),
      )
