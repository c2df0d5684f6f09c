-- Every text has a first line feed, or none. Assumes nothing.
use Rattle.std.specs.Prelude.{◌≡◌, ◌∷◌, ◌++◌}
use Rattle.laws.specs.Usual.{List, ℕ}
use Rattle.text.specs.Lines.{line_feed}
use Rattle.text_scanning.specs.Scanning.{NoFeed}

-- a text up to its first line feed, and what stands behind it; or one with no line feed
pub data Cut (text : List ℕ) : Type 0 where
  feed : (line rest : List ℕ) → NoFeed line → text ≡ line ++ (line_feed ∷ rest) → Cut text
  clean : NoFeed text → Cut text
