-- Lines of text: a word, then numbers in decimal with a comma in front of each, then a line feed.
use Rattle.std.specs.Prelude.{◌∷◌, ◌++◌}
use Rattle.laws.specs.Usual.{List, [], ℕ}
use Rattle.text.specs.Decimal.{decimal_of}

abbrev pub space : ℕ
space = 0x20

abbrev pub comma : ℕ
comma = 0x2c

abbrev pub line_feed : ℕ
line_feed = 0x0a

abbrev pub numbers_of : List ℕ → List ℕ
numbers_of [] = []
numbers_of (number ∷ rest) = (comma ∷ decimal_of number) ++ numbers_of rest

abbrev pub line_of : List ℕ → List ℕ → List ℕ
line_of word numbers = (word ++ numbers_of numbers) ++ (line_feed ∷ [])
