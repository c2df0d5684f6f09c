-- The place of a mark among octets.
use Rattle.std.specs.Prelude.{◌∷◌, ◌+◌}
use Rattle.laws.specs.Usual.{Bool, cond, List, [], ℕ, suc, length, take, drop, eqb, ltb}

-- the number of octets before the first mark, or of all where there is none
abbrev pub before : ℕ → List ℕ → ℕ
before mark [] = 0
before mark (octet ∷ octets) = cond (eqb octet mark) 0 (suc (before mark octets))

-- what stands before the first mark, and behind it
abbrev pub up_to : ℕ → List ℕ → List ℕ
up_to mark octets = take (before mark octets) octets

abbrev pub behind : ℕ → List ℕ → List ℕ
behind mark octets = drop (before mark octets + 1) octets

abbrev pub has : ℕ → List ℕ → Bool
has mark octets = ltb (before mark octets) (length octets)
