-- A text that has room for so many bytes, with a piece after it. Definitions only.
use Rattle.std.specs.Prelude.{List, ◌++◌, ℕ, take}

-- the text with the piece after it; what has no room among n bytes is left out
unfoldable pub pushed : ℕ → List ℕ → List ℕ → List ℕ
pushed n text piece = take n (text ++ piece)
