-- Octets as text: two digits an octet, in lower case.
use Rattle.std.specs.Prelude.{◌∷◌, ◌++◌, ◌+◌, ◌/◌, ◌%◌}
use Rattle.laws.specs.Usual.{cond, List, [], ℕ, ltb}

-- "0" to "9", then "a" to "f"
abbrev pub digit_of : ℕ → ℕ
digit_of value = cond (ltb value 10) (48 + value) (87 + value)

-- the high digit first
abbrev pub octet_text : ℕ → List ℕ
octet_text octet = digit_of (octet / 16) ∷ digit_of (octet % 16) ∷ []

abbrev pub hex_of : List ℕ → List ℕ
hex_of [] = []
hex_of (octet ∷ rest) = octet_text octet ++ hex_of rest
