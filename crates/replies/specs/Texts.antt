-- The texts of the names in the code, and which of them each word has. Definitions only: nothing here stands in the contract of an exported function.
use Rattle.std.specs.Prelude.{List, [], ◌∷◌, ◌++◌, ℕ, zero, suc, ◌+◌, length, get_or, replicate}
use Rattle.lists.specs.Gather.{flat_to}
use Rattle.lists.specs.Table.{table}
use Rattle.replies.specs.Labels.{side_text, player_text, Owner, nobody, side, player, Named, named}
use Rattle.replies.specs.Names.{names}

-- the names of some runs
unfoldable pub names_of : List Named → List (List ℕ)
names_of [] = []
names_of (named first owner ns ∷ runs) = ns ++ names_of runs

-- nobody, the sides, the players, and the names
unfoldable pub texts : List (List ℕ)
texts = ([] ∷ (table 2 side_text ++ table 40 player_text)) ++ names_of names

-- one of them
abbrev pub text_at : ℕ → List ℕ
text_at j = get_or texts j []

-- the place of whose a group is: after that of nobody the sides, and after these the players
abbrev pub owners_in : Owner → ℕ → List ℕ
owners_in nobody n = replicate n 0
owners_in side n = flat_to 2 (λ s. replicate n (1 + s))
owners_in player n = flat_to 40 (λ k. replicate n (3 + k))

-- and of each word
unfoldable pub owners_of : List Named → List ℕ
owners_of [] = []
owners_of (named first owner ns ∷ runs) = owners_in owner (length ns) ++ owners_of runs

-- the places of the names of a run of which the first stands at a place, group by group
abbrev pub places_in : Owner → ℕ → ℕ → List ℕ
places_in nobody n at = table n (λ k. at + k)
places_in side n at = flat_to 2 (λ s. table n (λ k. at + k))
places_in player n at = flat_to 40 (λ p. table n (λ k. at + k))

-- and of all runs
unfoldable pub places_of : ℕ → List Named → List ℕ
places_of at [] = []
places_of at (named first owner ns ∷ runs) = places_in owner (length ns) at ++ places_of (at + length ns) runs

-- which text says whose each word is, and which is its name
unfoldable pub owners : List ℕ
owners = owners_of names

unfoldable pub called : List ℕ
called = places_of 43 names

-- where the text j begins in the texts, one after the other
unfoldable pub start_of : List (List ℕ) → ℕ → ℕ
start_of [] j = 0
start_of (t ∷ ts) zero = 0
start_of (t ∷ ts) (suc j) = length t + start_of ts j

-- the texts, one after the other
unfoldable pub flatten : List (List ℕ) → List ℕ
flatten [] = []
flatten (t ∷ ts) = t ++ flatten ts
