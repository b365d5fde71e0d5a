-- The item of a line, by its kind. Assumes nothing.
use mathlib.Core.Path.{◌≡◌, ap}
use mathlib.Core.Bool.{false}
use Prim.Native.Nat.{ℕ}
use lib.Dec.{eqb}
use Rattle.lines.specs.declared.Row.{Row}
use Rattle.sheet.specs.Rows.{row}
use Rattle.items.specs.Items.{who_of, float_of, item_of}
use Rattle.items.specs.declared.Item.TheVariants.{PlacedThird}

pub item_kinded : (r : Row) (k : ℕ) → r.kind ≡ k → item_of r ≡ item_of (row k r.side r.number r.value)
item_kinded r k e = ap (λ (n : ℕ). item_of (row n r.side r.number r.value)) e

-- where the kind is none of 1 to 8
pub item_last : (r : Row) → eqb r.kind 1 ≡ false → eqb r.kind 2 ≡ false → eqb r.kind 3 ≡ false → eqb r.kind 4 ≡ false → eqb r.kind 5 ≡ false → eqb r.kind 6 ≡ false → eqb r.kind 7 ≡ false → eqb r.kind 8 ≡ false
    → item_of r ≡ PlacedThird (who_of r.side r.number) (float_of r.value)
unfolding item_of
item_last r e1 e2 e3 e4 e5 e6 e7 e8 = simp (e1, e2, e3, e4, e5, e6, e7, e8)
