-- What the words of a situation are called: whose a word is, and its name. Definitions only.
use Rattle.std.specs.Prelude.{cond, List, [], ◌∷◌, ◌++◌, ℕ, ◌+◌, ◌/◌, ◌%◌, eqb}
use Rattle.lists.specs.Gather.{flat_to}
use Rattle.text.specs.Decimal.{decimal_of}

-- "Home "
abbrev pub home : List ℕ
home = 72 ∷ 111 ∷ 109 ∷ 101 ∷ 32 ∷ []

-- "Away "
abbrev pub away : List ℕ
away = 65 ∷ 119 ∷ 97 ∷ 121 ∷ 32 ∷ []

-- a side: 0 is Home, 1 Away
abbrev pub side_text : ℕ → List ℕ
side_text s = cond (eqb s 0) home away

-- "Away 3 ": the player at the place k of the 40, from 0, who are in the order Home 1 to 20, then Away 1 to 20
abbrev pub player_text : ℕ → List ℕ
player_text k = side_text (k / 20) ++ (decimal_of (k % 20 + 1) ++ (32 ∷ []))

-- whose the groups of a run of words are: the one group is nobody's, the two are the sides', the 40 the players'
pub data Owner : Type 0 where
  nobody : Owner
  side : Owner
  player : Owner

-- a run of words: its first word, whose its groups are, and the names of a group's words
pub data Named : Type 0 where
  named : ℕ → Owner → List (List ℕ) → Named

-- each name with whose it is before it
unfoldable pub after : List ℕ → List (List ℕ) → List (List ℕ)
after owner [] = []
after owner (name ∷ names) = (owner ++ name) ∷ after owner names

-- what the words of a run are called
abbrev pub labels_in : Owner → List (List ℕ) → List (List ℕ)
labels_in nobody names = names
labels_in side names = flat_to 2 (λ s. after (side_text s) names)
labels_in player names = flat_to 40 (λ k. after (player_text k) names)

-- what the words of some runs are called
unfoldable pub labels_of : List Named → List (List ℕ)
labels_of [] = []
labels_of (named first owner names ∷ runs) = labels_in owner names ++ labels_of runs
