-- E2 of paper 02: the message codes, "B-9 in source document 003".
use Rattle.std.specs.Prelude.{◌&&◌, ◌||◌}
use Rattle.laws.specs.Usual.{Bool, ℕ, eqb, leb}
use Rattle.frame_writing.specs.Writing.{everyone}

abbrev pub is_within : ℕ → ℕ → ℕ → Bool
is_within low high number = leb low number && leb number high

-- transparent messages
abbrev pub is_transparent : ℕ → Bool
is_transparent = is_within 10000 59999

-- requests and responses; 65012 is the trigger, and 65212 is reserved
abbrev pub is_request : ℕ → Bool
is_request number = is_within 65003 65011 number || is_within 65013 65016 number

abbrev pub is_response : ℕ → Bool
is_response number = is_within 65203 65211 number || is_within 65213 65216 number

abbrev pub is_message : ℕ → Bool
is_message number = is_transparent number || (is_request number || is_response number)

-- "destination 255 for all"
abbrev pub to_all : ℕ → Bool
to_all destination = eqb destination everyone
