-- Numbers as text in ASCII.
use Rattle.laws.specs.Usual.{Bool, true, false, List, [], ℕ, suc, ltb}
use Rattle.std.specs.Prelude.{◌∷◌, ◌++◌, ◌+◌, ◌/◌, ◌%◌, zero}

-- the last digit of a number behind the others, which stand there only where the number has more than one
abbrev pub behind : Bool → List ℕ → ℕ → List ℕ
behind true others digit = digit ∷ []
behind false others digit = others ++ (digit ∷ [])

-- a number in decimal, of at most so many digits, with no leading zeros
unfoldable pub decimal_at : ℕ → ℕ → List ℕ
decimal_at zero number = []
decimal_at (suc most) number = behind (ltb number 10) (decimal_at most (number / 10)) (48 + number % 10)

-- a number below 10,000,000,000 in decimal
abbrev pub decimal_of : ℕ → List ℕ
decimal_of number = decimal_at 10 number
