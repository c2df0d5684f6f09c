-- The parts of a line between marks: its words between spaces, its fields between commas.
use Rattle.std.specs.Prelude.{◌∷◌, ◌+◌}
use Rattle.laws.specs.Usual.{cond, List, [], ℕ, length, get_or, drop, eqb, ltb}

-- an octet in front of the first of some parts
abbrev pub in_front : ℕ → List (List ℕ) → List (List ℕ)
in_front octet [] = (octet ∷ []) ∷ []
in_front octet (part ∷ parts) = (octet ∷ part) ∷ parts

-- the parts of a line, parted by each of its marks: a mark beside another, and one at an end of the line, leaves an empty part
abbrev pub parts_of : ℕ → List ℕ → List (List ℕ)
parts_of mark [] = [] ∷ []
parts_of mark (octet ∷ line) = cond (eqb octet mark) ([] ∷ parts_of mark line) (in_front octet (parts_of mark line))

-- the parts behind the mark at a place of the line: none where the line has ended
abbrev pub parts_behind : ℕ → List ℕ → ℕ → List (List ℕ)
parts_behind mark line place = cond (ltb place (length line)) (parts_of mark (drop (place + 1) line)) []

-- the place where the first part behind the mark at a place ends
abbrev pub end_of : ℕ → List ℕ → ℕ → ℕ
end_of mark line place = cond (ltb place (length line)) (place + 1 + length (get_or (parts_behind mark line place) 0 [])) place
