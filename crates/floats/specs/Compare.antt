-- The library's `Ordering` for the three ways in which two numbers compare.
use Prim.Native.Nat.{Ordering}
use Rattle.std.specs.declared.cmp.Ordering as Std
use Rattle.std.specs.declared.cmp.Ordering.TheVariants.{Less, Equal, Greater}

abbrev pub order : Ordering → Std.Ordering
order Ordering.lt = Less
order Ordering.eq = Equal
order Ordering.gt = Greater
