-- The octets that hexadecimal digits spell.
use Rattle.std.specs.Prelude.{Option, Some, None, ◌&&◌, ◌∷◌, ◌+◌, ◌*◌}
use Rattle.laws.specs.Usual.{Bool, true, false, List, [], ℕ, get_or}
use Rattle.text_hexadecimal.specs.Hexadecimal.{Spelled, octets, neither, digit_of, spelled}

abbrev pub octets_by : Spelled → List ℕ
octets_by (octets list) = list
octets_by neither = []

-- "either case, an even number of digits": the octets that some digits spell, and none where they are not an even number of hexadecimal digits
abbrev pub octets_of : List ℕ → List ℕ
octets_of digits = octets_by (spelled digits)

-- whether an octet is a hexadecimal digit, and its value, or 0 where it is none
abbrev pub is_digit_by : Option ℕ → Bool
is_digit_by (Some digit) = true
is_digit_by None = false

abbrev pub is_hexadecimal : ℕ → Bool
is_hexadecimal octet = is_digit_by (digit_of octet)

abbrev pub value_by : Option ℕ → ℕ
value_by (Some digit) = digit
value_by None = 0

abbrev pub value_of : ℕ → ℕ
value_of octet = value_by (digit_of octet)

-- what the pair of digits at a place spells, counted in pairs
abbrev pub octet_at : List ℕ → ℕ → ℕ
octet_at digits i = value_of (get_or digits (2 * i) 0) * 16 + value_of (get_or digits (2 * i + 1) 0)

abbrev pub all_hexadecimal : List ℕ → Bool
all_hexadecimal [] = true
all_hexadecimal (octet ∷ rest) = is_hexadecimal octet && all_hexadecimal rest
