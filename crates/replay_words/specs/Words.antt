-- The words of a line, and words as numbers. Words in quotes are those of the table of commands.
use Rattle.std.specs.Prelude.{Option, ◌&&◌, ◌∷◌}
use Rattle.laws.specs.Usual.{Bool, true, false, List, [], ℕ, get_or, eqb}
use Rattle.text.specs.Lines.{space}
use Rattle.text_reading.specs.Parts.{parts_behind, end_of}
use Rattle.text_reading.specs.Values.{decimal_in}
use Rattle.replay_words.specs.declared.Number.{Number}

-- whether a line begins with a word
abbrev pub begins : List ℕ → List ℕ → Bool
begins [] line = true
begins (letter ∷ word) [] = false
begins (letter ∷ word) (octet ∷ line) = eqb octet letter && begins word line

-- the words behind the space at a place of the line: none where the line has ended
abbrev pub words_behind : List ℕ → ℕ → List (List ℕ)
words_behind line place = parts_behind space line place

-- "decimal without leading zeros (0 itself is `0`)"; a number above 1,000,000 is out of every range of the table, and is none
abbrev pub decimal : List ℕ → Option ℕ
decimal word = decimal_in 1000000 word

-- the number that a word is, of some words counted from 0; a word that is not there is no number
abbrev pub number_in : List (List ℕ) → ℕ → Option ℕ
number_in words i = decimal (get_or words i [])

-- the first word behind the space at a place, as a number, and the place where it ends
abbrev pub number_at : List ℕ → ℕ → Number
number_at line place = record { value = number_in (words_behind line place) 0; end = end_of space line place }
