-- Decimal numbers as they are read: without leading zeros, and at most a limit.
use Rattle.std.specs.Prelude.{Option, Some, None, ◌&&◌, ◌∷◌, ◌+◌, ◌-◌, ◌*◌}
use Rattle.laws.specs.Usual.{Bool, cond, List, [], ℕ, length, eqb, leb, ltb}

abbrev pub is_digit : ℕ → Bool
is_digit octet = leb 0x30 octet && leb octet 0x39

-- the value of decimal digits behind a value so far, or none where an octet is no digit or the value is above the limit
abbrev pub value_on : ℕ → ℕ → List ℕ → Option ℕ
value_on most value [] = Some value
value_on most value (octet ∷ octets) =
    cond (is_digit octet)
    (cond (leb (value * 10 + (octet - 0x30)) most) (value_on most (value * 10 + (octet - 0x30)) octets) None)
    None

-- the number that octets are, "decimal without leading zeros (0 itself is `0`)", or none where they are no such number up to the limit
abbrev pub decimal_in : ℕ → List ℕ → Option ℕ
decimal_in most [] = None
decimal_in most (digit ∷ digits) = cond (eqb digit 0x30 && ltb 0 (length digits)) None (value_on most 0 (digit ∷ digits))

-- the number, or what stands for none
abbrev pub number_or : ℕ → Option ℕ → ℕ
number_or none (Some value) = value
number_or none None = none
