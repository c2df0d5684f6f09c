-- Words put together to a line.
use Rattle.std.specs.Prelude.{◌∷◌, ◌++◌}
use Rattle.laws.specs.Usual.{List, [], ℕ}
use Rattle.text.specs.Lines.{space, line_feed}

-- a line: its words, then the line feed
abbrev pub ended : List ℕ → List ℕ
ended words = words ++ (line_feed ∷ [])

-- two words, a space between them
abbrev pub spaced : List ℕ → List ℕ → List ℕ
spaced first second = (first ++ (space ∷ [])) ++ second
