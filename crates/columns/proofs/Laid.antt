-- The runs follow each other from the word 0 on, and end at the number of words; the table in the code has as many. Assumes nothing.
use mathlib.Core.Path.{◌≡◌, refl}
use mathlib.Core.Bool.{Bool, true, ◌&&◌}
use mathlib.Core.List.{List, [], ◌∷◌}
use Prim.Native.Nat.{ℕ, ◌+◌, ◌*◌}
use lib.Dec.{eqb}
use lib.ListN.{length}
use Rattle.lists.specs.Gather.{flat_to}
use Rattle.columns.specs.Layout.{word_count, pose_words, pose, Run, run, layout, columns_of, columns}

-- the runs follow each other from the word n on
abbrev pub follow_from : ℕ → List Run → Bool
follow_from n [] = eqb n word_count
follow_from n (run first groups group ∷ runs) = eqb n first && follow_from (n + groups * length group) runs

pub laid_out : follow_from 0 layout ≡ true
unfolding layout
laid_out = refl

pub columns_count : length columns ≡ word_count
unfolding flat_to layout columns_of columns
columns_count = refl

pub pose_count : length pose ≡ pose_words
pose_count = refl
