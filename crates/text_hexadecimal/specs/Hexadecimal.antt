-- A line of hexadecimal digits as the octets that it spells: "one frame a line in hexadecimal (either case, no separators, any length)".
use Rattle.std.specs.Prelude.{Option, Some, None, ◌&&◌, ◌∷◌, ◌+◌, ◌-◌, ◌*◌}
use Rattle.laws.specs.Usual.{Bool, cond, List, [], ℕ, leb}

abbrev pub between : ℕ → ℕ → ℕ → Bool
between low high n = leb low n && leb n high

-- "0" to "9", "A" to "F", "a" to "f"
abbrev pub digit_of : ℕ → Option ℕ
digit_of octet =
    cond (between 0x30 0x39 octet) (Some (octet - 48))
    (cond (between 0x41 0x46 octet) (Some (octet - 55))
    (cond (between 0x61 0x66 octet) (Some (octet - 87)) None))

-- the octets that a line spells, or that it is "not an even number of hexadecimal digits"
pub data Spelled : Type 0 where
  octets : List ℕ → Spelled
  neither : Spelled

abbrev pub joined : Option ℕ → Option ℕ → Spelled → Spelled
joined (Some high) (Some low) (octets rest) = octets ((high * 16 + low) ∷ rest)
joined (Some high) (Some low) neither = neither
joined (Some high) None rest = neither
joined None low rest = neither

abbrev pub spelled : List ℕ → Spelled
spelled [] = octets []
spelled (digit ∷ []) = neither
spelled (high ∷ low ∷ line) = joined (digit_of high) (digit_of low) (spelled line)
